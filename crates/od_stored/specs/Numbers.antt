-- Numbers as bytes: seven bits in each, the least first, in the shortest form (unsigned LEB128).
use Rattle.std.specs.Prelude.{ℕ, zero, suc, ◌+◌, ◌-◌, ◌*◌, ◌/◌, ◌%◌, ◌==◌, List, [], ◌∷◌, Result, Ok, Err, nat_lt, if◌then◌else◌}
use Rattle.od_stored.specs.declared.fault.NumberFault.{NumberFault}
use Rattle.od_stored.specs.declared.fault.NumberFault.TheVariants.{Ends, Wrong}
use Rattle.od_stored.specs.declared.limits.TheConstants.{NUMBER_END}
use Rattle.od_stored.specs.Steps.{◌>>=◌}

-- A number below 128 is one byte. A greater one begins with its last seven bits, marked by 128,
-- and the bytes of what is above them follow; here there are at most k of those.
unfoldable pub septets : ℕ → ℕ → List ℕ
septets zero n = n ∷ []
septets (suc k) n = if nat_lt n 128 then n ∷ [] else (n % 128 + 128) ∷ septets k (n / 128)

-- the bytes of a number below 2^32, of which there are at most five
abbrev pub number_bytes : ℕ → List ℕ
number_bytes n = septets 4 n

-- numbers of at most k + 1 bytes are below this
abbrev pub limit : ℕ → ℕ
limit zero = 128
limit (suc k) = 128 * limit k

-- A byte below 128 is the last. Behind another one stands what is above its seven bits, which is
-- not 0, since the form is the shortest; here at most k bytes follow.
unfoldable pub septets_read : ℕ → List ℕ → Result (ℕ × List ℕ) NumberFault
septets_read k [] = Err Ends
septets_read zero (b ∷ bytes) = if nat_lt b 128 then Ok (b, bytes) else Err Wrong
septets_read (suc k) (b ∷ bytes) =
    if nat_lt b 128 then Ok (b, bytes) else septets_read k bytes >>= λ above.
    if above.0 == 0 then Err Wrong else Ok (b - 128 + 128 * above.0, above.1)

-- the number at the front of some bytes, and the bytes behind it
abbrev pub number_read : List ℕ → Result (ℕ × List ℕ) NumberFault
number_read bytes = septets_read 4 bytes >>= λ n. if nat_lt n.0 NUMBER_END then Ok n else Err Wrong
