use Rattle.std.proofs.Common.{◌≡◌, ℕ, List, Option, Some, ◌∙◌, sym, ap, subst, slice_get}
use Rattle.std.specs.Prelude.{Contains, MatchOption}
use Rattle.od_constraint.proofs.PlaceLemmas.{no_place, one_place}
use Rattle.od_constraint.proofs.places.Places.find.Goals as goal

pub returns-in-Some : goal.returns-in-Some
returns-in-Some c = λ texts h.
    let text = c.args.text.now in
    let own = c.args.self.now in
    let there : c.got.result ≡ slice_get own.at.items c.in-Some.number = c.got.ensures ∙ ap (λ (ps : List ℕ). slice_get ps c.in-Some.number) c.deref.ensures.value in
    subst (λ (o : Option ℕ). MatchOption o (Contains texts text → ⊥) (λ place. slice_get texts place ≡ Some text)) (sym there)
    (one_place texts own.names own.at.items text c.in-Some.number h.stand (sym c.place.ensures ∙ c.in-Some.is))

pub returns-in-None : goal.returns-in-None
returns-in-None c = λ texts h. no_place texts c.args.self.now.names c.args.text.now h.all (sym c.place.ensures ∙ c.in-None.is)
