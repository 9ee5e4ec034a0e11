-- The edges at each token, by their numbers.
use Rattle.std.specs.Prelude.{◌≡◌, ℕ, zero, suc, ◌<◌, Bool, true, false, ◌==◌, List, [], ◌∷◌, ◌++◌, length, Option, Some, None, if◌then◌else◌, slice_get, slice_index_or}
use Rattle.std.specs.List.{flat_map, All}
use Rattle.od_document.specs.declared.token.Edge.{Edge}
use Rattle.od_document.specs.declared.sentence.Sentence.{Sentence}
use Rattle.od_matching.specs.Matching.Reach.{governor, dependent, nodes}
use Rattle.od_reach.specs.Moves.{Input, allows, behind}
use Rattle.od_reach.specs.declared.links.Links.{Links}
use Rattle.od_reach.specs.declared.moves.Spot.{Spot}

-- one end of an edge: its governor, or its dependent
abbrev pub end_of : Bool → Edge → ℕ
end_of true = governor
end_of false = dependent

-- the number of an edge that has this end at the token
abbrev pub number_at : (from : Edge → ℕ) → ℕ → ℕ → Option Edge → List ℕ
number_at from at k None = []
number_at from at k (Some edge) = if from edge == at then k ∷ [] else []

-- the numbers of those of the first n edges that have this end at the token
unfoldable pub numbers_at : (from : Edge → ℕ) → List Edge → ℕ → ℕ → List ℕ
numbers_at from edges at zero = []
numbers_at from edges at (suc n) =
    numbers_at from edges at n ++ number_at from at n (slice_get edges n)

-- behind the edge, if it is there and allowed
abbrev pub over_one : (to : Edge → ℕ) → Bool → ℕ → Option Edge → List Spot
over_one to allowed pc None = []
over_one to allowed pc (Some edge) = behind to edge pc allowed

-- behind those of the edges of these numbers that the row allows
abbrev pub over_all : (to : Edge → ℕ) → Input → Option ℕ → ℕ → List ℕ → List Spot
over_all to w row pc numbers =
    flat_map (λ k. over_one to (allows w.rows row k) pc (slice_get w.edges k)) numbers

-- each number is below n
abbrev pub AllBelow : ℕ → List ℕ → Type 0
AllBelow n numbers = All (λ k. k < n) numbers

-- for each token the numbers of those of the first n edges that have this end there
pub record AreNumbersAt
    (from : Edge → ℕ) (s : Sentence) (n : ℕ) (lists : List (List ℕ)) : Type 0 where
  pub long : length lists ≡ nodes s
  pub numbers :
      (t : ℕ) → t < nodes s → slice_index_or lists t [] ≡ numbers_at from s.edges t n

-- the numbers of a sentence's edges at the tokens that they begin at: along them and against them
pub record AreLinks (s : Sentence) (links : Links) : Type 0 where
  pub along : AreNumbersAt governor s (length s.edges) links.along.items
  pub against : AreNumbersAt dependent s (length s.edges) links.against.items
