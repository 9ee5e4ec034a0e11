use Rattle.std.proofs.Common.{ap, sym, ◌∙◌}
use Rattle.od_need.specs.Needs.{need_path, need_turns}
use Rattle.od_require.proofs.Built.{need_path_repeat}
use Rattle.od_require.proofs.patterns.+path.Goals as goal

pub need_of_path-returns-in_ok-need-in-Repeat : goal.need_of_path-returns-in_ok-need-in-Repeat
need_of_path-returns-in_ok-need-in-Repeat t c =
    c.need_of_turns.ensures
    ∙ ap (need_turns c.in-Repeat.least) (c.in_ok-need-in-Repeat.ensures ∙ ap need_path c.get-in-Repeat.ensures)
    ∙ sym (ap need_path c.in-Repeat.is ∙ need_path_repeat c.in-Repeat.body c.in-Repeat.least c.in-Repeat.field-2)
