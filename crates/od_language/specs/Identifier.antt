-- Identifiers: names of captures, labels, variables and keys.
use Rattle.std.specs.Prelude.{ℕ, Bool, false, ◌&&◌, ◌||◌, ◌==◌, nat_lt, List, [], ◌∷◌, length}
use Rattle.std.specs.List.{list_all}
use Rattle.std.specs.Char.{is_ascii_alphanumeric, is_ascii_alphabetic}
use Rattle.od_language.specs.declared.limits.TheConstants.{IDENTIFIER_BYTES}

-- an ASCII letter or `_`
abbrev pub begins_identifier : ℕ → Bool
begins_identifier c = is_ascii_alphabetic c || c == 95

-- an ASCII letter or digit, or `_`
abbrev pub in_identifier : ℕ → Bool
in_identifier c = is_ascii_alphanumeric c || c == 95

-- a limited number of such characters, which are bytes too, the first no digit
abbrev pub is_identifier : List ℕ → Bool
is_identifier [] = false
is_identifier (c ∷ more) =
    begins_identifier c && nat_lt (length more) IDENTIFIER_BYTES && list_all in_identifier more
