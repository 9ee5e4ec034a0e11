-- Where each move leads from a token.
use Rattle.std.specs.Prelude.{◌≡◌, ℕ, zero, suc, ◌+◌, ◌-◌, ◌⊎◌, Bool, true, false, ◌&&◌, ◌==◌, List, [], ◌∷◌, ◌++◌, length, Option, Some, None, slice_get, slice_index_or}
use Rattle.od_document.specs.declared.token.Edge.{Edge}
use Rattle.od_document.specs.declared.sentence.Sentence.{Sentence}
use Rattle.od_matching.specs.Matching.Reach.{governor, dependent, nodes}
use Rattle.od_reach.specs.declared.moves.Move.{Move}
use Rattle.od_reach.specs.declared.moves.Move.TheVariants.{Along, Against, Stay, Fork, Skip, Back, Fail}
use Rattle.od_reach.specs.declared.moves.Spot.{Spot}

-- what the walk is given of a sentence: how many tokens it has, its edges, and the rows of truths
pub record Input : Type 0 where
  pub tokens : ℕ
  pub edges : List Edge
  pub rows : List (List Bool)

-- a sentence with some rows of truths
abbrev pub input_of : Sentence → List (List Bool) → Input
input_of s rows = record { tokens = nodes s; edges = s.edges; rows = rows }

-- a truth that is not there is false
abbrev pub truth_in : Option (List Bool) → ℕ → Bool
truth_in None k = false
truth_in (Some row) k = slice_index_or row k false

-- the truth of a row at a token or at an edge
abbrev pub holds_in : List (List Bool) → ℕ → ℕ → Bool
holds_in rows n k = truth_in (slice_get rows n) k

-- the row holds at the edge of this number; where there is no row each edge will do
abbrev pub allows : List (List Bool) → Option ℕ → ℕ → Bool
allows rows None k = true
allows rows (Some n) k = holds_in rows n k

-- the move at this place, from this token
abbrev pub spot : ℕ → ℕ → Spot
spot pc at = record { pc = pc; at = at }

-- the spot, if so
abbrev pub if_so : Bool → Spot → List Spot
if_so true next = next ∷ []
if_so false next = []

-- behind the edge, if so
abbrev pub behind : (to : Edge → ℕ) → Edge → ℕ → Bool → List Spot
behind to edge pc so = if_so so (spot (pc + 1) (to edge))

-- behind the edge, if it is there, allowed, and begins at the token
abbrev pub over_edge : (from to : Edge → ℕ) → Bool → ℕ → ℕ → Option Edge → List Spot
over_edge from to allowed pc at None = []
over_edge from to allowed pc at (Some edge) = behind to edge pc (allowed && (from edge == at))

-- behind those of the first n edges that the row allows and that begin at the token
unfoldable pub over_edges : (from to : Edge → ℕ) → Input → Option ℕ → ℕ → ℕ → ℕ → List Spot
over_edges from to w row pc at zero = []
over_edges from to w row pc at (suc n) =
    over_edges from to w row pc at n
    ++ over_edge from to (allows w.rows row n) pc at (slice_get w.edges n)

-- where a move at the place pc leads from a token
abbrev pub nexts : Input → Move → ℕ → ℕ → List Spot
nexts w (Along row) pc at = over_edges governor dependent w row pc at (length w.edges)
nexts w (Against row) pc at = over_edges dependent governor w row pc at (length w.edges)
nexts w (Stay n) pc at = if_so (holds_in w.rows n at) (spot (pc + 1) at)
nexts w (Fork n) pc at = spot (pc + 1) at ∷ spot (pc + 1 + n) at ∷ []
nexts w (Skip n) pc at = spot (pc + 1 + n) at ∷ []
nexts w (Back n) pc at = spot (pc - n) at ∷ []
nexts w Fail pc at = []

-- the same, at a place where there may be no move
abbrev pub nexts_of : Input → Option Move → ℕ → ℕ → List Spot
nexts_of w None pc at = []
nexts_of w (Some next) pc at = nexts w next pc at

-- the spots that follow a spot
abbrev pub steps : Input → List Move → Spot → List Spot
steps w code s = nexts_of w (slice_get code s.pc) s.pc s.at

-- the spot is one of these
abbrev pub In : Spot → List Spot → Type 0
In s [] = ⊥
In s (x ∷ xs) = (x ≡ s) ⊎ In s xs

-- the moves stand from the place pc on, up to the place end
abbrev pub Stands : List Move → ℕ → List Move → ℕ → Type 0
Stands code pc [] end = pc ≡ end
Stands code pc (x ∷ xs) end = (slice_get code pc ≡ Some x) × Stands code (pc + 1) xs end
