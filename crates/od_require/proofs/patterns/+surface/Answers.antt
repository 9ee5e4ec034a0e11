use Rattle.std.proofs.Common.{ap, sym, ◌∙◌}
use Rattle.od_need.specs.Needs.{need_surface}
use Rattle.od_require.proofs.Built.{need_capture}
use Rattle.od_require.proofs.patterns.+surface.Goals as goal

pub need_of_surface-returns-in_ok-need-in-Capture : goal.need_of_surface-returns-in_ok-need-in-Capture
need_of_surface-returns-in_ok-need-in-Capture t c =
    c.in_ok-need-in-Capture.ensures
    ∙ ap need_surface c.get-in-Capture.ensures
    ∙ sym (ap need_surface c.in-Capture.is ∙ need_capture c.in-Capture.field-0 c.in-Capture.body)
