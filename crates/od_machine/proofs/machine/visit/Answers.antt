use Rattle.std.proofs.Common.{◌≡◌, ℕ, ◌+◌, ◌<◌, ◌≤◌, ◌++◌, ◌∷◌, Bool, List, length, reverse, true, false, arith, subst, sym, refl, ◌∙◌, ap, length-append}
use Rattle.std.proofs.lemmas.List.{length-reverse}
use Rattle.std.proofs.lemmas.Option.{slice_get_read}
use Rattle.std.specs.Prelude.{slice_get, slice_index_or, option_to_list, Some}
use Rattle.od_matching.specs.Matching.First.{accept}
use Rattle.od_machine.specs.Dues.{due, work_left}
use Rattle.od_machine.specs.Machine.{weight}
use Rattle.od_machine.specs.Search.{state_of, replay, TakesMark, Searching, events_of}
use Rattle.od_machine.specs.Inputs.{given}
use Rattle.od_machine.specs.declared.instruction.Instruction.{Instruction}
use Rattle.od_machine.specs.declared.points.Points.{Points}
use Rattle.od_machine.specs.declared.thread.Event.{Event}
use Rattle.od_machine.specs.declared.thread.Thread.{Thread}
use Rattle.od_machine.proofs.Dues.{due-visit, work-visit, work-drop}
use Rattle.od_machine.proofs.Search.{slot-few, same_marks, drop_dead, drop_marked, go_on, found, fail_behind}
use Rattle.od_machine.proofs.Visiting.{past}
use Rattle.od_machine.proofs.machine.visit.Goals as goal

instr_at : (code : List Instruction) (pc : ℕ) (x : Instruction) → pc < length code → x ≡ slice_index_or code pc x → slice_get code pc ≡ Some x
instr_at code pc x h e = slice_get_read code (length code) pc x refl h e

pub returns-then-from-code-clause-searching : goal.returns-then-from-code-clause-searching
returns-then-from-code-clause-searching c = λ a goal s.
    subst (λ (tr : List Event). Searching (given c.args.tokens c.args.rows.now c.args.labels.now) c.args.code.now c.args.points.now a goal c.args.seen.now.marks tr (reverse c.args.threads.now.items)) (sym c.truncate.ensures.items)
    (drop_dead _ _ _ a goal _ _ c.args.from _ s (past _ _ _ c.if-from-code.true))

pub returns-then-from-code-clause-progress : goal.returns-then-from-code-clause-progress
returns-then-from-code-clause-progress c = work-drop c.args.points.now c.args.tokens c.args.seen.now.marks (reverse c.args.threads.now.items) c.args.from

pub returns-in-Match-clause-searching : goal.returns-in-Match-clause-searching
returns-in-Match-clause-searching c = λ a goal s. (
  found _ _ _ a goal _ _ c.args.from _ s (instr_at c.args.code.now c.args.from.pc c.index-code-from.result (omega arith) c.index-code-from.is ∙ ap Some c.in-Match.is) ∙ ap (λ (tr : List Event). replay c.args.code.now tr (accept c.args.from.at)) (sym c.truncate.ensures.items),
  s.inside.0,
  s.inside.1,
  fail_behind _ _ _ a goal _ _ c.args.from _ s,
)

pub returns-in-Match-clause-progress : goal.returns-in-Match-clause-progress
returns-in-Match-clause-progress c = work-drop c.args.points.now c.args.tokens c.args.seen.now.marks (reverse c.args.threads.now.items) c.args.from

pub take_up-requires-clause-slot : goal.take_up-requires-clause-slot
take_up-requires-clause-slot c = slot-few c.args.points.now c.args.from.pc c.slot.result c.slot.ensures

pub returns-then-not-taken_up : goal.returns-then-not-taken_up
returns-then-not-taken_up c =
    let w = given c.args.tokens c.args.rows.now c.args.labels.now in
    let points : Points = c.args.points.now in
    let from : Thread = c.args.from in
    let ts : List Thread = reverse c.args.threads.now.items in
    let old : List Bool = c.args.seen.now.marks in
    let new : List Bool = c.take_up.new.seen.marks in
    let takes : TakesMark points.count c.slot.result (state_of from) false old new =
    subst (λ (z : Bool). TakesMark points.count c.slot.result (state_of from) z old new) c.if-not-taken_up.true c.in_ok-taken_up.ensures.mark in
    let same : new ≡ old = same_marks points.count c.slot.result (state_of from) old new takes in
    let left : due points c.args.tokens new ts ≡ due points c.args.tokens old ts = ap (λ (z : List Bool). due points c.args.tokens z ts) same in
    let work : work_left points c.args.tokens new ts ≡ work_left points c.args.tokens old ts = ap (λ (z : List Bool). work_left points c.args.tokens z ts) same in
    let steps : c.take_up.new.seen.steps ≡ c.args.seen.now.steps + weight false 1 =
    c.in_ok-taken_up.ensures.steps ∙ ap (λ (z : Bool). c.args.seen.now.steps + weight z 1) c.if-not-taken_up.true in
    record {
      searching = λ a goal s.
          subst (λ (tr : List Event). Searching w c.args.code.now points a goal new tr ts) (sym c.truncate.ensures.items)
          (drop_marked w c.args.code.now points a goal old new _ from ts c.slot.result s c.slot.ensures takes);
      room = c.in_ok-taken_up.ensures.room;
      progress = omega (arith, work, work-drop points c.args.tokens old ts from);
      counted = omega (arith, left, steps);
    }

one_step : (old new : ℕ) (taken_up : Bool) → taken_up ≡ true → new ≡ old + weight taken_up 1 → new ≡ old + 1
one_step old new taken_up e h = h ∙ ap (λ (z : Bool). old + weight z 1) e

pub returns : goal.returns
returns c =
    let w = given c.args.tokens c.args.rows.now c.args.labels.now in
    let points : Points = c.args.points.now in
    let from : Thread = c.args.from in
    let ts : List Thread = reverse c.args.threads.now.items in
    let ts' : List Thread = option_to_list c.in_ok-next.next ++ reverse c.follow.new.threads.items in
    let inside : from.pc < length c.args.code.now = omega arith in
    let here : slice_get c.args.code.now from.pc ≡ Some c.index-code-from.result = instr_at c.args.code.now from.pc c.index-code-from.result inside c.index-code-from.is in
    let takes : TakesMark points.count c.slot.result (state_of from) true c.args.seen.now.marks c.take_up.new.seen.marks =
    subst (λ (z : Bool). TakesMark points.count c.slot.result (state_of from) z c.args.seen.now.marks c.take_up.new.seen.marks) c.if-not-taken_up.false c.in_ok-taken_up.ensures.mark in
    let falls : due points c.args.tokens c.take_up.new.seen.marks ts' < due points c.args.tokens c.args.seen.now.marks (from ∷ ts) =
    due-visit points c.args.tokens w c.index-code-from.result from ts ts' c.slot.result c.len-events.result c.args.seen.now.marks c.take_up.new.seen.marks c.requires.inside c.requires.room
    c.slot.ensures takes (λ to leads. c.requires.meet.targets from.pc to c.index-code-from.result here leads) c.in_ok-next.ensures.stack in
    let few : length ts' ≤ length ts + (c.args.tokens + 2) =
    omega (arith, length-append (option_to_list c.in_ok-next.next) (reverse c.follow.new.threads.items), length-reverse c.follow.new.threads.items, length-reverse c.args.threads.now.items, c.in_ok-next.ensures.few, c.follow.new.threads.ok.0, c.args.threads.now.ok.0) in
    record {
      searching = λ a goal s.
          go_on w c.args.code.now points a goal c.args.seen.now.marks c.take_up.new.seen.marks c.args.trail.now.items c.record_event.new.trail.items from ts ts' c.index-code-from.result c.slot.result c.len-events.result s
          here c.in_default.not-Match c.slot.ensures takes
          (c.in_ok-record_event.ensures ∙ ap (λ (z : List Event). z ++ events_of c.index-code-from.result from.pc from.at) c.truncate.ensures.items)
          (c.len-events.ensures ∙ c.record_event.new.trail.ok.0) c.in_ok-next.ensures.stack;
      room = c.in_ok-taken_up.ensures.room;
      progress = work-visit points c.args.tokens c.args.seen.now.marks c.take_up.new.seen.marks ts ts' from falls few;
      counted = omega (arith, falls, one_step c.args.seen.now.steps c.take_up.new.seen.steps c.in_ok-taken_up.taken_up c.if-not-taken_up.false c.in_ok-taken_up.ensures.steps);
    }
