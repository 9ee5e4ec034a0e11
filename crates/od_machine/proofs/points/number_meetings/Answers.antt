use Rattle.std.proofs.Common.{◌≡◌, ℕ, ◌++◌, [], Bool, List, drop, length, sym, ◌∙◌, ap, arith}
use Rattle.std.proofs.lemmas.List.{append-nil, drop_all}
use Rattle.std.specs.Prelude.{Option}
use Rattle.od_machine.specs.Points.{numbered_from, runs}
use Rattle.od_machine.proofs.Meetings.{numbered}
use Rattle.od_machine.proofs.points.number_meetings.Goals as goal

pub invariant_of-result : goal.invariant_of-result
invariant_of-result c =
    let meets : List Bool = c.args.meets.now in
    let slots : List (Option ℕ) = c.loop-meeting.slots in
    let count : ℕ = c.loop-meeting.count in
    let inv = c.loop-meeting.invariant in
    let past : drop c.loop-meeting.meeting-index meets ≡ [] = drop_all c.loop-meeting.meeting-index meets c.loop-meeting-test.false in
    let all : slots ≡ numbered_from 0 meets = sym (append-nil slots) ∙ ap (λ (z : List Bool). slots ++ numbered_from count z) (sym past) ∙ inv.0 in
    let rest : length (runs (numbered_from count (drop c.loop-meeting.meeting-index meets))) ≡ 0 = ap (λ (z : List Bool). length (runs (numbered_from count z))) past in
    let same : length (runs slots) ≡ length (runs (numbered_from 0 meets)) = ap (λ (z : List (Option ℕ)). length (runs z)) all in
    record {
      numbered = numbered slots meets all;
      counted = omega (arith, inv.1, rest, same);
    }
