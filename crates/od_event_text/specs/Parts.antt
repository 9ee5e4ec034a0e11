-- The lines of an event pattern, as the program has them.
use Rattle.std.specs.Prelude.{◌≡◌, ℕ, ◌+◌, ◌<◌, ◌≤◌, ◌==◌, not, List, [], ◌∷◌, ◌++◌, length, Option, Some, None, if◌then◌else◌}
use Rattle.std.specs.Borrow.{Bor}
use Rattle.std.specs.Char.{is_whitespace}
use Rattle.std.specs.List.{list_all, filter}
use Rattle.std.specs.Str.{chars, NonePass}
use Rattle.od_language.specs.Lexing.{size_of}
use Rattle.od_syntax.specs.Events.{Line, lines, Cut, cut_from}
use Rattle.od_event_text.specs.declared.lines.Part.{Part}

-- the characters before the first c, and those behind it
pub record IsCut (c : ℕ) (text head rest : List ℕ) : Type 0 where
  pub parts : chars text ≡ chars head ++ c ∷ chars rest
  pub first : NonePass (λ d. d == c) (chars head)
  pub size : size_of (chars head) ≡ length head
  pub all : length text ≡ length head + 1 + length rest

-- the two sides of the first c, where there is one
abbrev pub IsCutAt : ℕ → List ℕ → Option (Bor (List ℕ) × Bor (List ℕ)) → Type 0
IsCutAt c text None = NonePass (λ d. d == c) (chars text)
IsCutAt c text (Some x) = IsCut c text x.0.now x.1.now

-- the place behind a part
abbrev pub ends : Part → ℕ
ends x = x.at + length x.text.now

-- a part as a line
abbrev pub line_of : Part → Line
line_of x = record { at = x.at; text = chars x.text.now }

-- the lines of a part that are not of white space alone
abbrev pub own_of : Part → List Line
own_of x = filter (λ l. not (list_all is_whitespace l.text)) (lines x.at (chars x.text.now))

-- a line in front of others, unless it is of white space alone
abbrev pub owned : Line → List Line → List Line
owned line ls = if not (list_all is_whitespace line.text) then line ∷ ls else ls

-- a part in two: its first line and what stands behind
pub record IsFirstLine (rest line more : Part) : Type 0 where
  pub own : own_of rest ≡ owned (line_of line) (own_of more)
  pub line_within : ends line ≤ ends rest
  pub more_within : ends more ≤ ends rest
  pub shorter : length more.text.now < length rest.text.now

-- the first line of its own and the others
pub record IsNext (rest line more : Part) : Type 0 where
  pub own : own_of rest ≡ line_of line ∷ own_of more
  pub line_within : ends line ≤ ends rest
  pub more_within : ends more ≤ ends rest
  pub shorter : length more.text.now < length rest.text.now

abbrev pub IsNextLine : Part → Option (Part × Part) → Type 0
IsNextLine rest None = own_of rest ≡ []
IsNextLine rest (Some x) = IsNext rest x.0 x.1

-- the head of a line, and the text behind
abbrev pub cut_of : List ℕ → Part → Cut
cut_of head x = record { head = chars head; at = x.at; text = chars x.text.now }

abbrev pub IsParted : Part → Option (Bor (List ℕ) × Part) → Type 0
IsParted line None = cut_from line.at (chars line.text.now) ≡ None
IsParted line (Some x) =
    (cut_from line.at (chars line.text.now) ≡ Some (cut_of x.0.now x.1)) × (ends x.1 ≤ ends line)
