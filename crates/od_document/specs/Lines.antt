-- The lines of a text, numbered from 1, and the blocks of lines between its empty lines.
use Rattle.std.specs.Prelude.{ℕ, ◌+◌, ◌==◌, Bool, List, [], ◌∷◌, length, if◌then◌else◌, drop, nat_eq}
use Rattle.std.specs.Str.Lines.{lines}
use Rattle.std.specs.List.{slice_split, starts_with}

-- a line, without what ends it, and its number
pub record Line : Type 0 where
  pub number : ℕ
  pub text : List ℕ

-- the bytes after a byte order mark, which may stand at the very beginning
abbrev pub without_mark : List ℕ → List ℕ
without_mark bytes = if starts_with nat_eq bytes (239 ∷ 187 ∷ 191 ∷ []) then drop 3 bytes else bytes

-- texts as lines, the first of which has this number
abbrev pub numbered : ℕ → List (List ℕ) → List Line
numbered n [] = []
numbered n (text ∷ texts) = record { number = n; text = text } ∷ numbered (n + 1) texts

-- a line ends at a line feed, with one carriage return before it, or at the end of the text
abbrev pub lines_of : List ℕ → List Line
lines_of text = numbered 1 (lines text)

-- whether a line is empty
abbrev pub is_blank : Line → Bool
is_blank line = length line.text == 0

-- the runs of lines between empty lines; a run may have no line
abbrev pub blocks_of : List ℕ → List (List Line)
blocks_of text = slice_split is_blank (lines_of text)
