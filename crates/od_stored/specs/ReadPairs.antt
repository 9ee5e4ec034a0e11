-- The list of pairs that some bytes are, or their first fault with its place.
use Rattle.std.specs.Prelude.{ℕ, zero, suc, ◌+◌, ◌-◌, ◌/◌, ◌%◌, ◌==◌, ◌&&◌, Bool, false, List, [], ◌∷◌, ◌++◌, length, Option, Some, None, Result, Ok, Err, nat_lt, nat_le, if◌then◌else◌}
use Rattle.od_stored.specs.declared.fault.NumberFault.{NumberFault}
use Rattle.od_stored.specs.declared.fault.NumberFault.TheVariants.{Ends, Wrong}
use Rattle.od_stored.specs.declared.fault.PackFault.{PackFault}
use Rattle.od_stored.specs.declared.fault.PackFault.TheVariants as fault
use Rattle.od_stored.specs.declared.limits.TheConstants.{NUMBER_END, BLOCK_PAIRS}
use Rattle.od_stored.specs.Numbers.{number_read}
use Rattle.od_stored.specs.Steps.{◌>>=◌}
use Rattle.od_stored.specs.Texts.{place}

-- each function reads one item at the front of the rest of `total` bytes, and tells what is left

-- a number's fault: where the bytes end, or where the number begins
abbrev pub packed_fault : ℕ → List ℕ → NumberFault → PackFault
packed_fault total bytes Ends = fault.Truncated total
packed_fault total bytes Wrong = fault.NotCanonical (place total bytes)

abbrev pub packed : {X : Type 0} → ℕ → List ℕ → Result X NumberFault → Result X PackFault
packed total bytes (Ok x) = Ok x
packed total bytes (Err e) = Err (packed_fault total bytes e)

unfoldable pub packed_at : ℕ → List ℕ → Result (ℕ × List ℕ) PackFault
packed_at total bytes = packed total bytes (number_read bytes)

-- a sentence before that of the pair before it, if there is one
abbrev pub is_before : Option (ℕ × ℕ) → ℕ → Bool
is_before None sentence = false
is_before (Some a) sentence = nat_lt sentence a.0

-- a second number that is not above that of the pair before it, in the same sentence
abbrev pub is_not_above : Option (ℕ × ℕ) → ℕ → ℕ → Bool
is_not_above None sentence second = false
is_not_above (Some a) sentence second = sentence == a.0 && nat_le second a.1

-- the first pair of a block, which is above the last one of the block before
unfoldable pub first_second_at : ℕ → Option (ℕ × ℕ) → ℕ → List ℕ → Result ((ℕ × ℕ) × List ℕ) PackFault
first_second_at total last sentence bytes =
    packed_at total bytes >>= λ second.
    if is_not_above last sentence second.0 then Err (fault.NotCanonical (place total bytes))
    else Ok ((sentence, second.0), second.1)

unfoldable pub first_at : ℕ → Option (ℕ × ℕ) → List ℕ → Result ((ℕ × ℕ) × List ℕ) PackFault
first_at total last bytes =
    packed_at total bytes >>= λ sentence.
    if is_before last sentence.0 then Err (fault.NotCanonical (place total bytes))
    else first_second_at total last sentence.0 sentence.1

-- the second number that is told behind a pair, so many sentences later
abbrev pub second_told : ℕ × ℕ → ℕ → ℕ → ℕ
second_told a later told = if later == 0 then a.1 + 1 + told else told

-- a pair behind another one; none of its numbers leads past the greatest
unfoldable pub second_at : ℕ → ℕ × ℕ → ℕ → List ℕ → Result ((ℕ × ℕ) × List ℕ) PackFault
second_at total a later bytes =
    packed_at total bytes >>= λ told.
    if nat_lt (second_told a later told.0) NUMBER_END
    then Ok ((a.0 + later, second_told a later told.0), told.1)
    else Err (fault.NotCanonical (place total bytes))

unfoldable pub behind_at : ℕ → ℕ × ℕ → List ℕ → Result ((ℕ × ℕ) × List ℕ) PackFault
behind_at total a bytes =
    packed_at total bytes >>= λ later.
    if nat_lt (a.0 + later.0) NUMBER_END then second_at total a later.0 later.1
    else Err (fault.NotCanonical (place total bytes))

-- so many pairs, each behind the one before it
unfoldable pub behinds_at : ℕ → ℕ → ℕ × ℕ → List ℕ → Result (List (ℕ × ℕ) × List ℕ) PackFault
behinds_at total zero a bytes = Ok ([], bytes)
behinds_at total (suc n) a bytes =
    behind_at total a bytes >>= λ b. behinds_at total n b.0 b.1 >>= λ more. Ok (b.0 ∷ more.0, more.1)

-- the body of a block of so many pairs
unfoldable pub body_at : ℕ → Option (ℕ × ℕ) → ℕ → List ℕ → Result (List (ℕ × ℕ) × List ℕ) PackFault
body_at total last zero bytes = Ok ([], bytes)
body_at total last (suc n) bytes =
    first_at total last bytes >>= λ a. behinds_at total n a.0 a.1 >>= λ more. Ok (a.0 ∷ more.0, more.1)

-- a block of so many pairs; that its length is its body's is tested once the body was read
unfoldable pub block_at : ℕ → Option (ℕ × ℕ) → ℕ → List ℕ → Result (List (ℕ × ℕ) × List ℕ) PackFault
block_at total last n bytes =
    packed_at total bytes >>= λ size. body_at total last n size.1 >>= λ body.
    if size.0 == length size.1 - length body.1 then Ok body else Err (fault.NotCanonical (place total bytes))

-- the last pair, where some were read, and else the last one before them
abbrev pub last_of : Option (ℕ × ℕ) → List (ℕ × ℕ) → Option (ℕ × ℕ)
last_of last [] = last
last_of last (a ∷ more) = last_of (Some a) more

-- the rest behind the full blocks, which is a block where it has pairs
abbrev pub rest_at : ℕ → Option (ℕ × ℕ) → ℕ → List ℕ → Result (List (ℕ × ℕ) × List ℕ) PackFault
rest_at total last zero bytes = Ok ([], bytes)
rest_at total last (suc n) bytes = block_at total last (suc n) bytes

-- so many full blocks, and one of the rest
unfoldable pub blocks_at : ℕ → ℕ → Option (ℕ × ℕ) → ℕ → List ℕ → Result (List (ℕ × ℕ) × List ℕ) PackFault
blocks_at total zero last rest bytes = rest_at total last rest bytes
blocks_at total (suc n) last rest bytes =
    block_at total last BLOCK_PAIRS bytes >>= λ block.
    blocks_at total n (last_of last block.0) rest block.1 >>= λ more. Ok (block.0 ++ more.0, more.1)

-- nothing is left over
abbrev pub packed_end : {X : Type 0} → ℕ → X × List ℕ → Result X PackFault
packed_end total (x, []) = Ok x
packed_end total (x, b ∷ bytes) = Err (fault.NotCanonical (place total (b ∷ bytes)))

-- the pairs that all of some bytes are
unfoldable pub pairs_read : List ℕ → Result (List (ℕ × ℕ)) PackFault
pairs_read bytes =
    let total = length bytes in
    packed_at total bytes >>= λ count.
    blocks_at total (count.0 / BLOCK_PAIRS) None (count.0 % BLOCK_PAIRS) count.1 >>= λ pairs.
    packed_end total pairs
