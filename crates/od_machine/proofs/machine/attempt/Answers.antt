use Rattle.std.proofs.Common.{◌≡◌, ◌++◌, ◌∷◌, [], false, List, reverse, arith, subst, sym, refl, ◌∙◌, ap}
use Rattle.std.specs.Prelude.{option_to_list}
use Rattle.od_machine.specs.Machine.{state, run}
use Rattle.od_machine.specs.Search.{Searching}
use Rattle.od_machine.specs.Dues.{led_through, due}
use Rattle.od_machine.specs.Inputs.{given, ahead, After}
use Rattle.od_machine.specs.declared.thread.Step.{Step}
use Rattle.od_machine.specs.declared.thread.Thread.{Thread}
use Rattle.od_machine.specs.declared.thread.Event.{Event}
use Rattle.od_machine.proofs.Search.{begin, exhausted}
use Rattle.od_machine.proofs.machine.attempt.Goals as goal

pub search-init : goal.search-init
search-init c =
    let w = given c.args.tokens c.args.rows.now c.args.labels.now in
    let goal = run w c.args.code.now (state 0 false c.args.start) in
    let first : Thread = record { pc = 0; taken = false; at = c.args.start; events = 0 } in (
      subst (λ (z : List Thread). Searching w c.args.code.now c.args.points.now c.args.start goal c.args.seen.now.marks c.clear.new.self.items (first ∷ reverse z)) (sym c.clear-2.ensures.items)
          (subst (λ (z : List Event). Searching w c.args.code.now c.args.points.now c.args.start goal c.args.seen.now.marks z (first ∷ [])) (sym c.clear.ensures.items)
          (begin w c.args.code.now c.args.points.now c.args.seen.now.marks c.args.start c.requires.inside c.requires.failed)),
      refl,
      (let none : led_through c.args.points.now (reverse c.clear-2.new.self.items) ≡ 0 = ap (λ (z : List Thread). led_through c.args.points.now (reverse z)) c.clear-2.ensures.items in omega arith),
    )

pub search-preserved : goal.search-preserved
search-preserved c =
    let w = given c.args.tokens c.args.rows.now c.args.labels.now in
    let goal = run w c.args.code.now (state 0 false c.args.start) in
    let before = subst (λ (z : List Thread). Searching w c.args.code.now c.args.points.now c.args.start goal c.search.seen.marks c.search.trail.items z) c.in-Some.ensures.stack c.search.invariant.0 in
    let after = c.in_ok-visit.ensures.searching c.args.start goal before in (
      subst (λ (z : Step). After w c.args.code.now c.args.points.now c.args.start goal z c.in-Some.from.at c.visit.new.seen.marks c.visit.new.trail.items (reverse c.visit.new.threads.items)) c.in-Goes.is after,
      c.in_ok-visit.ensures.room ∙ c.search.invariant.1,
      (let left = due c.args.points.now c.args.tokens in
          let stack : left c.search.seen.marks (option_to_list c.search.next ++ reverse c.search.threads.items) ≡ left c.search.seen.marks (c.in-Some.from ∷ reverse c.first_of.new.threads.items) =
          ap (left c.search.seen.marks) c.in-Some.ensures.stack in
          let then : left c.visit.new.seen.marks (ahead c.in_ok-visit.field-0 ++ reverse c.visit.new.threads.items) ≡ left c.visit.new.seen.marks (option_to_list c.in-Goes.then ++ reverse c.visit.new.threads.items) =
          ap (λ (z : Step). left c.visit.new.seen.marks (ahead z ++ reverse c.visit.new.threads.items)) c.in-Goes.is in
          omega (arith, stack, then, c.in_ok-visit.ensures.counted, c.search.invariant.2)),
    )

pub returns-in-AtEnd-clause-found : goal.returns-in-AtEnd-clause-found
returns-in-AtEnd-clause-found c =
    let w = given c.args.tokens c.args.rows.now c.args.labels.now in
    let goal = run w c.args.code.now (state 0 false c.args.start) in
    let before = subst (λ (z : List Thread). Searching w c.args.code.now c.args.points.now c.args.start goal c.search.seen.marks c.search.trail.items z) c.in-Some.ensures.stack c.search.invariant.0 in
    let after = c.in_ok-visit.ensures.searching c.args.start goal before in
    sym (subst (λ (z : Step). After w c.args.code.now c.args.points.now c.args.start goal z c.in-Some.from.at c.visit.new.seen.marks c.visit.new.trail.items (reverse c.visit.new.threads.items)) c.in-AtEnd.is after).0

pub returns-in-AtEnd-clause-failed : goal.returns-in-AtEnd-clause-failed
returns-in-AtEnd-clause-failed c =
    let w = given c.args.tokens c.args.rows.now c.args.labels.now in
    let goal = run w c.args.code.now (state 0 false c.args.start) in
    let before = subst (λ (z : List Thread). Searching w c.args.code.now c.args.points.now c.args.start goal c.search.seen.marks c.search.trail.items z) c.in-Some.ensures.stack c.search.invariant.0 in
    let after = c.in_ok-visit.ensures.searching c.args.start goal before in
    let done = subst (λ (z : Step). After w c.args.code.now c.args.points.now c.args.start goal z c.in-Some.from.at c.visit.new.seen.marks c.visit.new.trail.items (reverse c.visit.new.threads.items)) c.in-AtEnd.is after in
    (done.1, done.2, done.3)

pub returns-clause-failed : goal.returns-clause-failed
returns-clause-failed c =
    let w = given c.args.tokens c.args.rows.now c.args.labels.now in
    let goal = run w c.args.code.now (state 0 false c.args.start) in
    let none : c.first_of.new.threads.items ≡ [] = c.first_of.ensures.none c.in_default.is in
    let left : option_to_list c.search.next ++ reverse c.search.threads.items ≡ [] = c.in_default.ensures.stack ∙ ap reverse none in
    let done = subst (λ (z : List Thread). Searching w c.args.code.now c.args.points.now c.args.start goal c.search.seen.marks c.search.trail.items z) left c.search.invariant.0 in
    done.covers

pub returns-clause-found : goal.returns-clause-found
returns-clause-found c =
    let w = given c.args.tokens c.args.rows.now c.args.labels.now in
    let goal = run w c.args.code.now (state 0 false c.args.start) in
    let none : c.first_of.new.threads.items ≡ [] = c.first_of.ensures.none c.in_default.is in
    let left : option_to_list c.search.next ++ reverse c.search.threads.items ≡ [] = c.in_default.ensures.stack ∙ ap reverse none in
    sym (exhausted w c.args.code.now c.args.points.now c.args.start goal c.search.seen.marks c.search.trail.items
    (subst (λ (z : List Thread). Searching w c.args.code.now c.args.points.now c.args.start goal c.search.seen.marks c.search.trail.items z) left c.search.invariant.0))
