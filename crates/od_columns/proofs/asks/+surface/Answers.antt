use Rattle.std.proofs.Common.{◌++◌, ap, sym, ◌∙◌}
use Rattle.od_asked.specs.Asked.{asked_surface}
use Rattle.od_asked.proofs.Built.{asked_capture, asked_repeat}
use Rattle.od_columns.specs.Lent.{all_lent}
use Rattle.od_columns.proofs.asks.+surface.Goals as goal

pub push_surface-returns-in_ok-push_surface-in-Repeat : goal.push_surface-returns-in_ok-push_surface-in-Repeat
push_surface-returns-in_ok-push_surface-in-Repeat t c =
    c.in_ok-push_surface-in-Repeat.ensures
    ∙ ap (λ z. all_lent c.args.asked.now.items ++ z)
    (ap asked_surface c.get.ensures
    ∙ sym (ap asked_surface c.in-Repeat.is ∙ asked_repeat c.in-Repeat.body c.in-Repeat.field-1))

pub push_surface-returns-in_ok-push_surface-in-Capture : goal.push_surface-returns-in_ok-push_surface-in-Capture
push_surface-returns-in_ok-push_surface-in-Capture t c =
    c.in_ok-push_surface-in-Capture.ensures
    ∙ ap (λ z. all_lent c.args.asked.now.items ++ z)
    (ap asked_surface c.get-in-Capture.ensures
    ∙ sym (ap asked_surface c.in-Capture.is ∙ asked_capture c.in-Capture.field-0 c.in-Capture.body))
