-- Names and numbers of scripts, and which commands a script may have.
use Rattle.std.specs.Prelude.{ℕ, ◌+◌, ◌-◌, ◌*◌, List, [], ◌∷◌, length, Option, Some, None, Bool, true, ◌&&◌, ◌||◌, ◌==◌, if◌then◌else◌, nat_lt, nat_le, slice_index, ◌≡◌}
use Rattle.std.specs.List.{list_all}
use Rattle.od_command.specs.declared.history.Command.{Command}
use Rattle.od_command.specs.declared.history.Command.TheVariants.{AddDoc, OpenSession, Step, Resume, Print, Release, Settle}
use Rattle.od_order.specs.declared.script.TheConstants.{NAME_BYTES, NUMBER_DIGITS}

-- an ASCII letter
abbrev pub is_letter : ℕ → Bool
is_letter b = (nat_le 65 b && nat_le b 90) || (nat_le 97 b && nat_le b 122)

-- an ASCII digit
abbrev pub is_digit : ℕ → Bool
is_digit b = nat_le 48 b && nat_le b 57

-- an ASCII letter, a digit, `_`, `.` or `-`
abbrev pub is_name_byte : ℕ → Bool
is_name_byte b = is_letter b || (is_digit b || (b == 95 || (b == 46 || b == 45)))

-- a name has 1 to 64 of these bytes
abbrev pub is_name : List ℕ → Bool
is_name text = nat_le 1 (length text) && (nat_le (length text) NAME_BYTES && list_all is_name_byte text)

-- the number that digits go on from n
abbrev pub digits_from : ℕ → List ℕ → Option ℕ
digits_from n [] = Some n
digits_from n (b ∷ text) = if is_digit b then digits_from (n * 10 + (b - 48)) text else None

-- a number is `0`, or up to 9 digits without a leading zero
abbrev pub script_number : List ℕ → Option ℕ
script_number text =
    if length text == 0 || nat_lt NUMBER_DIGITS (length text) then None
    else (if slice_index text 0 == 48 && nat_lt 1 (length text) then None
    else digits_from 0 text)

-- a command whose names are names, as a script has it
abbrev pub is_proper : Command → Bool
is_proper (AddDoc name body) = is_name name
is_proper (OpenSession name grammar limit) = is_name name && is_name grammar
is_proper (Step name) = is_name name
is_proper (Resume name) = is_name name
is_proper (Print name) = is_name name
is_proper (Release name) = is_name name
is_proper Settle = true

abbrev pub IsProper : Command → Type 0
IsProper command = is_proper command ≡ true
