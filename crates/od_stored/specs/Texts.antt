-- Numbers and texts within the bytes of a list, with the places of their faults.
use Rattle.std.specs.Prelude.{ℕ, ◌-◌, ◌<◌, List, ◌++◌, length, take, drop, Result, Ok, Err, nat_lt, if◌then◌else◌, IsUtf8}
use Rattle.std.specs.Str.{is_utf8}
use Rattle.od_stored.specs.declared.fault.CodecFault.{CodecFault}
use Rattle.od_stored.specs.declared.fault.CodecFault.TheVariants as fault
use Rattle.od_stored.specs.declared.fault.NumberFault.{NumberFault}
use Rattle.od_stored.specs.declared.fault.NumberFault.TheVariants.{Ends, Wrong}
use Rattle.od_stored.specs.declared.limits.TheConstants.{NUMBER_END}
use Rattle.od_stored.specs.Numbers.{number_bytes, number_read}
use Rattle.od_stored.specs.Steps.{◌>>=◌}

-- where the rest of so many bytes begins
abbrev pub place : ℕ → List ℕ → ℕ
place total rest = total - length rest

-- a number's fault: where the bytes end, or where the number begins
abbrev pub number_fault : ℕ → List ℕ → NumberFault → CodecFault
number_fault total bytes Ends = fault.Short total
number_fault total bytes Wrong = fault.BadNumber (place total bytes)

abbrev pub placed : {X : Type 0} → ℕ → List ℕ → Result X NumberFault → Result X CodecFault
placed total bytes (Ok x) = Ok x
placed total bytes (Err e) = Err (number_fault total bytes e)

-- the number at the front of the rest of so many bytes
unfoldable pub number_at : ℕ → List ℕ → Result (ℕ × List ℕ) CodecFault
number_at total bytes = placed total bytes (number_read bytes)

-- a text that can be stored
pub record IsText (text : List ℕ) : Type 0 where
  pub short : length text < NUMBER_END
  pub utf8 : IsUtf8 text

-- the bytes of a text: its length in bytes, then UTF-8
abbrev pub text_bytes : List ℕ → List ℕ
text_bytes text = number_bytes (length text) ++ text

-- so many bytes of text; the text's length stood at `at`
abbrev pub text_of : ℕ → ℕ → ℕ → List ℕ → Result (List ℕ × List ℕ) CodecFault
text_of total at size bytes =
    if nat_lt (length bytes) size then Err (fault.Short total) else
    if is_utf8 (take size bytes) then Ok (take size bytes, drop size bytes) else Err (fault.BadText at)

-- the text at the front of the rest of so many bytes
unfoldable pub text_at : ℕ → List ℕ → Result (List ℕ × List ℕ) CodecFault
text_at total bytes = number_at total bytes >>= λ size. text_of total (place total bytes) size.0 size.1
