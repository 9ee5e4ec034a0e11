use Rattle.std.specs.Prelude.{Option, Some, slice_get}
use Rattle.std.proofs.Common.{◌≡◌, ℕ, Bool, List, sym, ◌∙◌, ap}
use Rattle.std.proofs.lemmas.Result.{IfOk-weaker}
use Rattle.od_machine.specs.Points.{numbered_from, IsTarget, AreMeetingPoints}
use Rattle.od_machine.proofs.Meetings.{meeting_points, meets_at}
use Rattle.od_machine.proofs.points.Points.of.Goals as goal

pub returns-clause-meet : goal.returns-clause-meet
returns-clause-meet c =
    let meets : List Bool = c.in_ok-meets.meets.items in
    IfOk-weaker c.number_meetings.result (λ points. points.slots ≡ numbered_from 0 c.as_slice.result.now) (λ points. AreMeetingPoints c.args.code.now points.slots)
    (λ points e.
    meeting_points c.args.code.now meets points.slots (e ∙ ap (numbered_from 0) c.as_slice.ensures.value)
    (sym c.in_ok-meets.meets.ok.0 ∙ c.in_ok-meets.ensures.size) c.in_ok-meets.ensures.targets)
    c.number_meetings.ensures

pub returns-clause-only : goal.returns-clause-only
returns-clause-only c =
    let meets : List Bool = c.in_ok-meets.meets.items in
    IfOk-weaker c.number_meetings.result (λ points. points.slots ≡ numbered_from 0 c.as_slice.result.now)
    (λ points. (pc n : ℕ) → slice_get points.slots pc ≡ Some (Some n) → IsTarget c.args.code.now pc)
    (λ points e pc n h.
    c.in_ok-meets.ensures.only pc
    (meets_at 0 meets pc n (ap (λ (z : List (Option ℕ)). slice_get z pc) (sym (e ∙ ap (numbered_from 0) c.as_slice.ensures.value)) ∙ h)))
    c.number_meetings.ensures
