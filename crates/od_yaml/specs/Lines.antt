-- The lines of a text, one at a time.
use Rattle.std.specs.Prelude.{◌≡◌, ℕ, ◌<◌, ◌≤◌, List, [], ◌∷◌, length, Option, None, Some}
use Rattle.std.specs.Borrow.{Bor}
use Rattle.std.specs.Str.Lines.{lines}

-- a text has this line, and then those of the rest
pub record BeginsWithLine (text line rest : List ℕ) : Type 0 where
  pub lines_are : lines text ≡ line ∷ lines rest
  pub shorter : length rest < length text
  pub within : length line ≤ length text

-- the first line of a text and the text of the others; none where there is no line
abbrev pub IsNextLine : List ℕ → Option (Bor (List ℕ) × Bor (List ℕ)) → Type 0
IsNextLine text None = lines text ≡ []
IsNextLine text (Some p) = BeginsWithLine text p.0.now p.1.now
