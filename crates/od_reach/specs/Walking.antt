-- What a walk knows of the spots: those that were taken up, and those that are still to be.
use Rattle.std.specs.Prelude.{◌≡◌, ℕ, zero, suc, ◌+◌, ◌*◌, ◌<◌, ◌⊎◌, Bool, true, false, List, [], ◌++◌, length, slice_index_or}
use Rattle.od_matching.specs.Matching.Reach.{Set}
use Rattle.od_reach.specs.Moves.{Input, spot, if_so, steps, In}
use Rattle.od_reach.specs.declared.moves.Move.{Move}
use Rattle.od_reach.specs.declared.moves.Spot.{Spot}

-- the tokens that are marked
abbrev pub set_of : List Bool → Set
set_of marks at = slice_index_or marks at false

-- the number of a spot among the marks, of which each token has n
abbrev pub number : ℕ → Spot → ℕ
number n s = s.at * n + s.pc

-- before the first move, at those of the first m tokens that are in the set
unfoldable pub starts_below : Set → ℕ → List Spot
starts_below start zero = []
starts_below start (suc m) = starts_below start m ++ if_so (start m) (spot 0 m)

module _ (w : Input) (code : List Move) where
  -- k moves lead from the place pc and the token a to the place fin and the token b
  abbrev pub Ends : ℕ → ℕ → ℕ → ℕ → ℕ → Type 0
  Ends fin b zero pc a = (pc ≡ fin) × (b ≡ a)
  Ends fin b (suc k) pc a =
      (q : ℕ) × (c : ℕ) × In (spot q c) (steps w code (spot pc a)) × Ends fin b k q c

  -- each token to which the moves lead from the spot, they lead to from a start
  abbrev pub Justified : Set → ℕ → ℕ → Type 0
  Justified start pc a =
      (b j : ℕ) → Ends (length code) b j pc a
      → (x : ℕ) × (start x ≡ true) × (k : ℕ) × Ends (length code) b k 0 x

  -- the spot was taken up
  abbrev pub Marked : List Bool → ℕ → ℕ → Type 0
  Marked marks pc a =
      (pc < length code + 1)
      × (slice_index_or marks (number (length code + 1) (spot pc a)) false ≡ true)

  -- the spots that are marked or waiting are justified;
  -- each start, and each spot that follows a marked one, is marked or waits
  pub record Walking (start : Set) (marks : List Bool) (todo : List Spot) : Type 0 where
    pub marked_is : (pc a : ℕ) → Marked marks pc a → Justified start pc a
    pub todo_is : (pc a : ℕ) → In (spot pc a) todo → Justified start pc a
    pub covered :
        (pc a q c : ℕ) → Marked marks pc a → In (spot q c) (steps w code (spot pc a))
        → q < length code + 1 → c < w.tokens → Marked marks q c ⊎ In (spot q c) todo
    pub starts :
        (x : ℕ) → start x ≡ true → x < w.tokens → Marked marks 0 x ⊎ In (spot 0 x) todo

  -- whatever the start, what was known before is known after
  abbrev pub GoesOn : List Bool → List Spot → List Bool → List Spot → Type 0
  GoesOn marks todo marks' todo' =
      (start : Set) → Walking start marks todo → Walking start marks' todo'

-- the marks behind the last move, one for each token
abbrev pub AreEnds : ℕ → ℕ → List Bool → List Bool → Type 0
AreEnds moves tokens marks ends =
    (b : ℕ) → b < tokens
    → slice_index_or ends b false
    ≡ slice_index_or marks (number (moves + 1) (spot moves b)) false
