use Rattle.std.proofs.Common.{◌≡◌, ℕ, ◌+◌, ◌*◌, ◌≤◌, [], List, length, Some, sym, ◌∙◌, ap, subst, arith}
use Rattle.std.proofs.Math.Nat.{mul-le-mul_right}
use Rattle.od_matching.specs.Matching.First.{Ending}
use Rattle.od_machine.specs.Machine.{Input}
use Rattle.od_machine.specs.Inputs.{given, outcome, FailBehind}
use Rattle.od_machine.specs.declared.instruction.Instruction.{Instruction}
use Rattle.od_machine.specs.declared.points.Points.{Points}
use Rattle.std.specs.Prelude.{Option, Bool}
use Rattle.od_machine.specs.Search.{FailFrom}
use Rattle.od_machine.proofs.Meetings.{whole_code}
use Rattle.od_machine.proofs.Search.{replay-some, replay-end, fail_weaker}
use Rattle.od_machine.proofs.Visiting.{fail_cleared}
use Rattle.od_machine.proofs.Founds.{step_none, step_empty, step_match}
use Rattle.od_machine.proofs.scan.scan_here.Goals as goal

module _ (w : Input) (code : List Instruction) (points : Points) (from : ℕ) (x : Option ℕ) (seen : List Bool) (end : ℕ) (e : x ≡ Some end) (h : FailBehind w code points from x seen) where
  behind : FailBehind w code points from (Some end) seen
  behind = subst (λ (z : Option ℕ). FailBehind w code points from z seen) e h

pub returns-then-cannot_begin-clause-scanned : goal.returns-then-cannot_begin-clause-scanned
returns-then-cannot_begin-clause-scanned c = λ u p f.
    step_none (given c.args.tokens c.args.rows.now c.args.labels.now) c.args.code.now u p f c.args.matches.now.items c.args.at c.requires.inside
    (c.cannot_begin.ensures.never c.if-cannot_begin.true c.args.tokens c.args.labels.now)

pub returns-then-cannot_begin-clause-failed : goal.returns-then-cannot_begin-clause-failed
returns-then-cannot_begin-clause-failed c =
    let w = given c.args.tokens c.args.rows.now c.args.labels.now in
    let at = c.args.at in
    subst (λ (z : List Bool). FailFrom w c.args.code.now c.args.points.now (at + 1) z) (sym c.step.ensures.marks)
    (fail_weaker w c.args.code.now c.args.points.now at (at + 1) c.args.seen.now.marks (omega arith) c.requires.failed)

pub attempt-requires-clause-few : goal.attempt-requires-clause-few
attempt-requires-clause-few c = omega (arith, whole_code c.args.code.now c.args.points.now.slots c.requires.meet, c.requires.few)

pub returns-in_default-clause-failed : goal.returns-in_default-clause-failed
returns-in_default-clause-failed c =
    let w = given c.args.tokens c.args.rows.now c.args.labels.now in
    let at = c.args.at in
    let failed = subst (λ (z : Option ℕ). FailBehind w c.args.code.now c.args.points.now at z c.attempt.new.seen.marks) c.in_default.is c.in_ok-end.ensures.failed in
    fail_weaker w c.args.code.now c.args.points.now at (at + 1) c.attempt.new.seen.marks (omega arith) failed

pub returns-in_default-clause-counted : goal.returns-in_default-clause-counted
returns-in_default-clause-counted c = omega (arith, whole_code c.args.code.now c.args.points.now.slots c.requires.meet, c.in_ok-end.ensures.counted)

pub returns-then-end-at-clause-failed : goal.returns-then-end-at-clause-failed
returns-then-end-at-clause-failed c =
    let w = given c.args.tokens c.args.rows.now c.args.labels.now in
    let b = behind _ _ _ _ _ _ _ c.in-Some.is c.in_ok-end.ensures.failed in
    fail_weaker w c.args.code.now c.args.points.now (c.in-Some.end + 1) (c.args.at + 1) c.attempt.new.seen.marks (omega arith) b.2

pub returns-then-end-at-clause-counted : goal.returns-then-end-at-clause-counted
returns-then-end-at-clause-counted c = omega (arith, whole_code c.args.code.now c.args.points.now.slots c.requires.meet, c.in_ok-end.ensures.counted)

pub returns-in_default-clause-scanned : goal.returns-in_default-clause-scanned
returns-in_default-clause-scanned c = λ u p f.
    step_none (given c.args.tokens c.args.rows.now c.args.labels.now) c.args.code.now u p f c.args.matches.now.items c.args.at c.requires.inside
    (sym c.in_ok-end.ensures.found ∙ ap (outcome c.args.code.now c.attempt.new.trail.items) c.in_default.is)

pub returns-then-end-at-clause-scanned : goal.returns-then-end-at-clause-scanned
returns-then-end-at-clause-scanned c = λ u p f.
    let w = given c.args.tokens c.args.rows.now c.args.labels.now in
    let bare : Ending = record { end = c.in-Some.end; captures = []; ends = [] } in
    let r = replay-some c.args.code.now c.attempt.new.trail.items bare in
    let end : r.0.end ≡ c.in-Some.end = replay-end c.args.code.now c.attempt.new.trail.items bare in
    step_empty w c.args.code.now u p f c.args.matches.now.items c.args.at c.requires.inside r.0
    (sym c.in_ok-end.ensures.found ∙ ap (outcome c.args.code.now c.attempt.new.trail.items) c.in-Some.is ∙ r.1)
    (omega (arith, end))

place_fits : (at tokens width : ℕ) → at ≤ tokens → (at + 1) * width ≤ (tokens + 1) * width
place_fits at tokens width h = mul-le-mul_right width (omega arith)

pub clear_place-requires-clause-place : goal.clear_place-requires-clause-place
clear_place-requires-clause-place c =
    let b = behind _ _ _ _ _ _ _ c.in-Some.is c.in_ok-end.ensures.failed in
    let le : c.in-Some.end ≤ c.args.tokens = b.1 in
    omega arith

pub clear_place-requires-clause-small : goal.clear_place-requires-clause-small
clear_place-requires-clause-small c =
    let b = behind _ _ _ _ _ _ _ c.in-Some.is c.in_ok-end.ensures.failed in
    omega (arith, place_fits c.in-Some.end c.args.tokens (2 * c.args.points.now.count) b.1, c.requires.small)

pub clear_place-requires-clause-room : goal.clear_place-requires-clause-room
clear_place-requires-clause-room c =
    let b = behind _ _ _ _ _ _ _ c.in-Some.is c.in_ok-end.ensures.failed in
    omega (arith, place_fits c.in-Some.end c.args.tokens (2 * c.args.points.now.count) b.1, c.requires.room, c.in_ok-end.ensures.room)

pub overflow_cast-end : goal.overflow_cast-end
overflow_cast-end c =
    let b = behind _ _ _ _ _ _ _ c.in-Some.is c.in_ok-end.ensures.failed in
    let le : c.in-Some.end ≤ c.args.tokens = b.1 in
    omega arith

pub returns-clause-scanned : goal.returns-clause-scanned
returns-clause-scanned c = λ u p f.
    let w = given c.args.tokens c.args.rows.now c.args.labels.now in
    let bare : Ending = record { end = c.in-Some.end; captures = []; ends = [] } in
    let r = replay-some c.args.code.now c.attempt.new.trail.items bare in
    let told = c.in_ok-captures.ensures r.0 r.1 in
    step_match w c.args.code.now u p f c.args.matches.now.items c.args.at c.requires.inside r.0
    (sym c.in_ok-end.ensures.found ∙ ap (outcome c.args.code.now c.attempt.new.trail.items) c.in-Some.is ∙ r.1)
    _ c.in-Some.end c.from_vec.result told.0 (told.1 ∙ sym c.from_vec.ensures) (omega arith)
    c.in_ok-push.ensures.items

pub returns-clause-failed : goal.returns-clause-failed
returns-clause-failed c =
    let b = behind _ _ _ _ _ _ _ c.in-Some.is c.in_ok-end.ensures.failed in
    fail_cleared _ _ c.args.points.now c.in-Some.end c.attempt.new.seen.marks _ b.2 c.clear_place.ensures.clears

pub returns-clause-counted : goal.returns-clause-counted
returns-clause-counted c =
    let size : ℕ = length c.args.code.now in
    let le : (c.args.at + 1) * size ≤ c.in-Some.end * size = mul-le-mul_right size (omega arith) in
    omega (arith, le, whole_code c.args.code.now c.args.points.now.slots c.requires.meet, c.in_ok-end.ensures.counted, c.clear_place.ensures.steps, c.clear_place.ensures.owed c.args.tokens)
