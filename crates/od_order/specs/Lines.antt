-- The lines of a script, with what ends them, and what they say.
use Rattle.std.specs.Prelude.{ℕ, ◌==◌, ◌||◌, Bool, List, [], ◌∷◌, length, take, if◌then◌else◌, nat_eq, not}
use Rattle.std.specs.Str.{is_utf8}
use Rattle.std.specs.Io.BufRead.{ends_with_byte, strip_last}
use Rattle.std.specs.List.{count_by, starts_with}
use Rattle.std.specs.Str.Lossy.{utf8_valid_len}

-- a byte before others, on the first of their lines
abbrev pub onto_first_line : ℕ → List (List ℕ) → List (List ℕ)
onto_first_line b [] = (b ∷ []) ∷ []
onto_first_line b (line ∷ lines) = (b ∷ line) ∷ lines

-- the lines of bytes, each with the line feed that ends it, which the last one may lack
abbrev pub whole_lines : List ℕ → List (List ℕ)
whole_lines [] = []
whole_lines (b ∷ bytes) = if b == 10 then (b ∷ []) ∷ whole_lines bytes else onto_first_line b (whole_lines bytes)

-- what a line says: it without its line feed and one carriage return before that
abbrev pub line_text : List ℕ → List ℕ
line_text line = if ends_with_byte 10 line then strip_last 13 (strip_last 10 line) else line

-- whether a line says nothing: it is empty or begins with `#`
abbrev pub says_nothing : List ℕ → Bool
says_nothing text = length text == 0 || starts_with nat_eq text (35 ∷ [])

-- whether some of the bytes are not UTF-8
abbrev pub has_bad_byte : List ℕ → Bool
has_bad_byte bytes = not (is_utf8 bytes)

-- how many lines end before the first byte that is not UTF-8
abbrev pub lines_before_bad_byte : List ℕ → ℕ
lines_before_bad_byte bytes = count_by (λ b. b == 10) (take (utf8_valid_len bytes) bytes)
