-- Where the texts of a list stand.
use Rattle.std.specs.Prelude.{◌≡◌, ℕ, List, [], ◌∷◌, Some, slice_get, Contains}
use Rattle.od_text.specs.Lists.{Each}
use Rattle.od_constraint.specs.declared.places.Places.{Places}

-- each name stands in the list at the place beside it
abbrev pub StandAt : List (List ℕ) → List (List ℕ) → List ℕ → Type 0
StandAt texts [] [] = Unit {0}
StandAt texts [] (place ∷ places) = ⊥
StandAt texts (name ∷ names) [] = ⊥
StandAt texts (name ∷ names) (place ∷ places) =
    (slice_get texts place ≡ Some name) × StandAt texts names places

-- the places of the texts of a list
pub record ArePlaces (places : Places) (texts : List (List ℕ)) : Type 0 where
  pub stand : StandAt texts places.names places.at.items
  pub all : Each (Contains places.names) texts
