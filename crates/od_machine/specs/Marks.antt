-- Marks, kept as the bits of words.
use Rattle.std.specs.Prelude.{◌≡◌, ℕ, ◌<◌, ◌≤◌, ◌⊎◌, ◌/◌, ◌%◌, ◌==◌, Bool, false, List, map, slice_index_or}
use Rattle.std.specs.Int.{bit_at}
use Rattle.std.specs.List.{range_with_len, Contains}

-- the mark of this number stands in a word of 64
unfoldable pub mark_in : List ℕ → ℕ → Bool
mark_in words n = bit_at (slice_index_or words (n / 64) 0) (n % 64) == 1

-- the first marks of the words, so many
abbrev pub marks_in : List ℕ → ℕ → List Bool
marks_in words count = map (mark_in words) (range_with_len 0 count)

-- each word with a mark is named
abbrev pub AreNamed : List ℕ → List ℕ → Type 0
AreNamed words named = (k : ℕ) → 0 < slice_index_or words k 0 → Contains named k

-- no word has a mark
abbrev pub AreBlank : List ℕ → Type 0
AreBlank words = (k : ℕ) → slice_index_or words k 0 ≡ 0

-- what a search knows of the states: which of them were taken up, and how many steps that took
pub record Visits : Type 0 where
  pub marks : List Bool
  pub steps : ℕ

-- the marks from one number up to another are off, and the others are as they were
pub record AreOff (from to : ℕ) (old new : List Bool) : Type 0 where
  pub off : (n : ℕ) → from ≤ n → n < to → slice_index_or new n false ≡ false
  pub others :
      (n : ℕ) → (n < from) ⊎ (to ≤ n)
      → slice_index_or new n false ≡ slice_index_or old n false
