use Rattle.std.proofs.Common.{◌≡◌, ◌∙◌, ap, sym}
use Rattle.od_reach.specs.Code.{rows_of}
use Rattle.od_reach.proofs.Rows.{rows_repeat}
use Rattle.od_reach.proofs.compile.+count.Goals as goal

pub count-returns-in_ok-rows-in-Repeat : goal.count-returns-in_ok-rows-in-Repeat
count-returns-in_ok-rows-in-Repeat t c =
    c.in_ok-rows-in-Repeat.ensures ∙ ap rows_of c.get-in-Repeat.ensures ∙ sym (ap rows_of c.in-Repeat.is ∙ rows_repeat c.in-Repeat.body c.in-Repeat.field-1 c.in-Repeat.field-2)
