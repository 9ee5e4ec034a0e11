use Rattle.std.proofs.Common.{◌≡◌, ℕ, ◌+◌, ◌*◌, ◌/◌, ◌<◌, ◌≤◌, ◌⊎◌, vec_len}
use Rattle.std.specs.Prelude.{slice_index_or, if◌then◌else◌, ◌&&◌, nat_le, nat_lt}
use Rattle.std.specs.Int.{bit_at}
use Rattle.od_machine.proofs.marks.clear_bits.Given as goal

abbrev pub invariant-loop-k : goal.invariant-loop-k
invariant-loop-k l =
    (vec_len l.words ≡ vec_len l.fn.words)
    × ((j : ℕ) → (j < l.from / 64) ⊎ (l.k ≤ j) → slice_index_or l.words.items j 0 ≡ slice_index_or l.fn.words.items j 0)
    × ((j i : ℕ) → l.from / 64 ≤ j → j < l.k → i < 64
    → bit_at (slice_index_or l.words.items j 0) i
    ≡ (if nat_le l.from (j * 64 + i) && nat_lt (j * 64 + i) l.to then 0 else bit_at (slice_index_or l.fn.words.items j 0) i))
    × ((j : ℕ) → slice_index_or l.words.items j 0 ≤ slice_index_or l.fn.words.items j 0)
