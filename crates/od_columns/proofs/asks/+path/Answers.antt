use Rattle.std.proofs.Common.{◌++◌, ap, sym, ◌∙◌}
use Rattle.od_asked.specs.Asked.{asked_path}
use Rattle.od_asked.proofs.Built.{asked_path_repeat}
use Rattle.od_columns.specs.Lent.{all_lent}
use Rattle.od_columns.proofs.asks.+path.Goals as goal

pub push_path-returns-in_ok-push_path-in-Repeat : goal.push_path-returns-in_ok-push_path-in-Repeat
push_path-returns-in_ok-push_path-in-Repeat t c =
    c.in_ok-push_path-in-Repeat.ensures
    ∙ ap (λ z. all_lent c.args.asked.now.items ++ z)
    (ap asked_path c.get.ensures
    ∙ sym (ap asked_path c.in-Repeat.is ∙ asked_path_repeat c.in-Repeat.body c.in-Repeat.field-1 c.in-Repeat.field-2))
