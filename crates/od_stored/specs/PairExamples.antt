-- Worked cases: pairs and their bytes, and bytes with their first faults.
use Rattle.std.specs.Prelude.{◌≡◌, ℕ, zero, suc, ◌+◌, List, [], ◌∷◌, ◌++◌, length, Ok, Err}
use Rattle.std.specs.List.{repeat}
use Rattle.od_stored.specs.declared.fault.PackFault.{PackFault}
use Rattle.od_stored.specs.declared.fault.PackFault.TheVariants as fault
use Rattle.od_stored.specs.Pairs.{pair_bytes}
use Rattle.od_stored.specs.ReadPairs.{pairs_read}

-- three pairs in two sentences
unfoldable pub three : List (ℕ × ℕ)
three = (0, 1) ∷ (0, 3) ∷ (2, 0) ∷ []

-- so many pairs of the first sentence, from a second number on
unfoldable pub seconds_from : ℕ → ℕ → List (ℕ × ℕ)
seconds_from zero second = []
seconds_from (suc n) second = (0, second) ∷ seconds_from n (second + 1)

-- a block's length and 64 pairs of the first sentence, from 0 on
unfoldable pub full_block : List ℕ
full_block = 128 ∷ 1 ∷ repeat 128 (0 ∷ [])

abbrev pub Misses : List ℕ → PackFault → Type 0
Misses bytes f = pairs_read bytes ≡ Err f

pub record PairExamples : Type 0 where
  pub three_pairs : pair_bytes three ≡ 3 ∷ 6 ∷ 0 ∷ 1 ∷ 0 ∷ 1 ∷ 2 ∷ 0 ∷ []
  pub no_pair : pair_bytes [] ≡ 0 ∷ []
  pub two_blocks : pair_bytes (seconds_from 65 0) ≡ 65 ∷ (full_block ++ 2 ∷ 0 ∷ 64 ∷ [])
  pub length_of_two_blocks : length (pair_bytes (seconds_from 65 0)) ≡ 134
  pub three_read : pairs_read (3 ∷ 6 ∷ 0 ∷ 1 ∷ 0 ∷ 1 ∷ 2 ∷ 0 ∷ []) ≡ Ok three
  pub none_read : pairs_read (0 ∷ []) ≡ Ok []
  pub two_blocks_read : pairs_read (65 ∷ (full_block ++ 2 ∷ 0 ∷ 64 ∷ [])) ≡ Ok (seconds_from 65 0)
  pub no_byte : Misses [] (fault.Truncated 0)
  pub one_byte_fewer : Misses (3 ∷ 6 ∷ 0 ∷ 1 ∷ 0 ∷ 1 ∷ 2 ∷ []) (fault.Truncated 7)
  pub one_byte_more : Misses (3 ∷ 6 ∷ 0 ∷ 1 ∷ 0 ∷ 1 ∷ 2 ∷ 0 ∷ 0 ∷ []) (fault.NotCanonical 8)
  pub not_shortest : Misses (3 ∷ 6 ∷ 0x80 ∷ 0 ∷ []) (fault.NotCanonical 2)
  -- a block's length is one too great; what its body says comes first
  pub other_length : Misses (1 ∷ 3 ∷ 0 ∷ 1 ∷ []) (fault.NotCanonical 1)
  pub body_before_length : Misses (1 ∷ 3 ∷ 0 ∷ []) (fault.Truncated 3)
  -- sentence 2^32 - 1, and one further; told before the second number is read
  pub past_the_last_sentence :
      Misses (2 ∷ 7 ∷ 0xff ∷ 0xff ∷ 0xff ∷ 0xff ∷ 0x0f ∷ 0 ∷ 1 ∷ []) (fault.NotCanonical 8)
  pub past_the_last_second :
      Misses (2 ∷ 8 ∷ 0 ∷ 0xff ∷ 0xff ∷ 0xff ∷ 0xff ∷ 0x0f ∷ 0 ∷ 0 ∷ []) (fault.NotCanonical 9)
  -- the first pair of the second block is the last one of the first
  pub same_second : Misses (65 ∷ (full_block ++ 2 ∷ 0 ∷ 63 ∷ [])) (fault.NotCanonical 133)
