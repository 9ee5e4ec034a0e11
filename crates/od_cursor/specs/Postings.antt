-- Posting lists, and what is left of one from a sentence on.
use Rattle.std.specs.Prelude.{ℕ, List, filter, nat_le}
use Rattle.std.specs.declared.cmp.Ordering.{Ordering}
use Rattle.std.specs.Ordering.{ordering_then, nat_cmp}
use Rattle.std.specs.List.Sorted.{IsStrictlySortedBy}

-- pairs of numbers, by the first and then by the second
abbrev pub pair_cmp : ℕ × ℕ → ℕ × ℕ → Ordering
pair_cmp a b = ordering_then (nat_cmp a.0 b.0) (nat_cmp a.1 b.1)

-- a posting list ascends strictly: by sentences, and within one by the second number
abbrev pub IsPostingList : List (ℕ × ℕ) → Type 0
IsPostingList pairs = IsStrictlySortedBy pair_cmp pairs

-- the pairs of this sentence and of later ones
abbrev pub from_sentence : ℕ → List (ℕ × ℕ) → List (ℕ × ℕ)
from_sentence sentence pairs = filter (λ p. nat_le sentence p.0) pairs
