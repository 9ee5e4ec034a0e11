use Rattle.std.proofs.Common.{◌≡◌, ℕ, ◌∷◌, [], List, Some, refl, sym, ◌∙◌, ap, arith, length}
use Rattle.od_matching.specs.Matching.First.{Ending}
use Rattle.od_machine.specs.Search.{replay}
use Rattle.od_machine.specs.Found.{so_far}
use Rattle.od_machine.specs.declared.thread.Event.{Event}
use Rattle.od_machine.proofs.Search.{replay-push, replay-nil}
use Rattle.od_machine.proofs.scan.finish.Goals as goal

pub events-preserved : goal.events-preserved
events-preserved c =
    let code = c.args.code.now in
    let old : Ending = so_far c.args.end c.events.parts.items c.events.ends.items in
    ap (λ (o : Ending). replay code c.pop.new.self.items (Some o)) (sym (c.in_ok-take_event.ensures c.args.end))
    ∙ sym (replay-push code c.pop.new.self.items c.in-Some.event (Some old))
    ∙ ap (λ (z : List Event). replay code z (Some old)) (sym c.in-Some.ensures.items)
    ∙ c.events.invariant

none_left : (xs : List Event) (n : ℕ) → n ≡ length xs → n ≡ 0 → xs ≡ []
none_left [] n e z = refl
none_left (x ∷ xs) n e z = absurd (omega arith)

pub returns : goal.returns
returns c = λ o e.
    let code = c.args.code.now in
    let whole : Ending = so_far c.args.end c.events.parts.items c.events.ends.items in
    let empty : c.events.trail.items ≡ [] = none_left c.events.trail.items c.events.trail.len c.events.trail.ok.0 c.in_default.ensures.cases.0 in
    let same : Some whole ≡ Some o =
    sym (replay-nil code (Some whole)) ∙ ap (λ (z : List Event). replay code z (Some whole)) (sym empty) ∙ c.events.invariant ∙ e in
    let is : whole ≡ o = cc in (
      sym (ap (λ (z : Ending). z.end) is),
      sym (ap (λ (z : Ending). z.captures) is) ∙ sym c.reverse.ensures.items,
    )
