-- The bytes of a strictly ascending list of pairs, in blocks that can be passed by their lengths.
use Rattle.std.specs.Prelude.{◌≡◌, ℕ, zero, suc, ◌+◌, ◌-◌, ◌/◌, ◌<◌, ◌⊎◌, Option, Some, None, List, [], ◌∷◌, ◌++◌, length, take, drop, flat_map, nat_lt, if◌then◌else◌}
use Rattle.od_stored.specs.declared.limits.TheConstants.{BLOCK_PAIRS, NUMBER_END}
use Rattle.od_stored.specs.Numbers.{number_bytes}

-- What is written of a pair's second number, behind another pair: it itself in a later sentence,
-- and how far it is above the next number in the same one.
abbrev pub second_behind : ℕ × ℕ → ℕ × ℕ → ℕ
second_behind a b = if nat_lt a.0 b.0 then b.1 else b.1 - (a.1 + 1)

-- a pair behind another one: how many sentences later it is, and its second number
abbrev pub pair_behind : ℕ × ℕ → ℕ × ℕ → List ℕ
pair_behind a b = number_bytes (b.0 - a.0) ++ number_bytes (second_behind a b)

unfoldable pub pairs_behind : ℕ × ℕ → List (ℕ × ℕ) → List ℕ
pairs_behind a [] = []
pairs_behind a (b ∷ more) = pair_behind a b ++ pairs_behind b more

-- the body of a block: its first pair as it is, and each other one behind the one before it
unfoldable pub body_bytes : List (ℕ × ℕ) → List ℕ
body_bytes [] = []
body_bytes (a ∷ more) = number_bytes a.0 ++ (number_bytes a.1 ++ pairs_behind a more)

-- a block is the length of its body in bytes, and the body
abbrev pub block_bytes : List (ℕ × ℕ) → List ℕ
block_bytes block = number_bytes (length (body_bytes block)) ++ body_bytes block

-- so many full blocks, and one of the rest, where there is a rest
unfoldable pub blocks_of : ℕ → List (ℕ × ℕ) → List (List (ℕ × ℕ))
blocks_of zero [] = []
blocks_of zero (a ∷ more) = (a ∷ more) ∷ []
blocks_of (suc n) pairs = take BLOCK_PAIRS pairs ∷ blocks_of n (drop BLOCK_PAIRS pairs)

-- the blocks of a list of pairs
abbrev pub blocks : List (ℕ × ℕ) → List (List (ℕ × ℕ))
blocks pairs = blocks_of (length pairs / BLOCK_PAIRS) pairs

-- the number of pairs, and the blocks
unfoldable pub pair_bytes : List (ℕ × ℕ) → List ℕ
pair_bytes pairs = number_bytes (length pairs) ++ flat_map block_bytes (blocks pairs)

-- a pair of numbers that can be stored
abbrev pub IsSmall : ℕ × ℕ → Type 0
IsSmall a = (a.0 < NUMBER_END) × (a.1 < NUMBER_END)

-- a pair above another one: in a later sentence, or further in the same one
abbrev pub IsAbove : ℕ × ℕ → ℕ × ℕ → Type 0
IsAbove a b = (a.0 < b.0) ⊎ ((a.0 ≡ b.0) × (a.1 < b.1))

-- a pair that may stand behind the last one so far, if there is one
abbrev pub IsBehind : Option (ℕ × ℕ) → ℕ × ℕ → Type 0
IsBehind None b = Unit {0}
IsBehind (Some a) b = IsAbove a b

-- pairs that can be stored, each above the one before it, the first one behind the last one so far
abbrev pub AscendsFrom : Option (ℕ × ℕ) → List (ℕ × ℕ) → Type 0
AscendsFrom last [] = Unit {0}
AscendsFrom last (b ∷ more) = IsBehind last b × IsSmall b × AscendsFrom (Some b) more

-- a list of pairs that can be packed: strictly ascending, fewer than 2^32
pub record IsPackable (pairs : List (ℕ × ℕ)) : Type 0 where
  pub count : length pairs < NUMBER_END
  pub ascends : AscendsFrom None pairs
