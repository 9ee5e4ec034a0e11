-- How far the lines of a literal were read.
use Rattle.std.specs.Prelude.{◌≡◌, ℕ, ◌-◌, ◌<◌, true, false, List, [], ◌∷◌, ◌++◌, length, take, slice_index, string_bytes, if◌then◌else◌, Option, None, Some, codes}
use Rattle.std.specs.Borrow.{Bor}
use Rattle.std.specs.List.{list_all, take_while}
use Rattle.std.specs.Str.{bytes_eq}
use Rattle.std.specs.Str.Lines.{lines}
use Rattle.od_rule_text.specs.Blanks.{is_blank_line, without_last}
use Rattle.od_rule_text.specs.Scalars.{is_literal, is_literal_line, joined_lines, literal_lines, literal_text}
use Rattle.od_yaml.specs.declared.literal.Chomping.{Chomping}
use Rattle.od_yaml.specs.declared.literal.Chomping.TheVariants.{Clip, Strip}
use Rattle.od_yaml.specs.declared.literal.LiteralText.{LiteralText}
use Rattle.od_yaml.specs.declared.literal.Scalar.{Scalar}
use Rattle.od_yaml.specs.declared.literal.Taken.{Taken}
use Rattle.od_yaml.specs.Below.{IsBelow}
use Rattle.od_yaml.specs.Lines.{BeginsWithLine}

-- ## The mark of a literal

-- the rest of a line is this mark, or none
abbrev pub IsMark : List ℕ → Option Chomping → Type 0
IsMark rest (Some Clip) = bytes_eq rest (codes "|") ≡ true
IsMark rest (Some Strip) = (bytes_eq rest (codes "|") ≡ false) × (bytes_eq rest (codes "|-") ≡ true)
IsMark rest None = is_literal rest ≡ false

-- a text with its last line feed, or without it
abbrev pub chomped : Chomping → List ℕ → List ℕ
chomped Clip text = text
chomped Strip text = take (length text - 1) text

-- a text that is empty or ends with a line feed
abbrev pub EndsWithFeed : List ℕ → Type 0
EndsWithFeed text = 0 < length text → slice_index text (length text - 1) ≡ 10

-- ## Its lines

-- the text of lines without this indentation, without the blank lines at their end
abbrev pub joined_text : ℕ → List (List ℕ) → List ℕ
joined_text n ws = joined_lines n (without_last is_blank_line ws)

-- what lines add, where the text of blank lines is held back before them
abbrev pub added : ℕ → List ℕ → List (List ℕ) → List ℕ
added n held ws = if list_all is_blank_line ws then [] else held ++ joined_text n ws

-- what the lines so far say with these behind them
abbrev pub said_with : ℕ → LiteralText → List (List ℕ) → List ℕ
said_with n said ws = string_bytes said.text ++ added n (string_bytes said.held) ws

-- the lines of a text that belong to a literal of this indentation
abbrev pub own_lines : ℕ → List ℕ → List (List ℕ)
own_lines n text = take_while (is_literal_line n) (lines text)

-- the first of these lines, and the text behind it; or there is none
abbrev pub IsNextOwn : ℕ → List ℕ → Option (Bor (List ℕ) × Bor (List ℕ)) → Type 0
IsNextOwn n text None = own_lines n text ≡ []
IsNextOwn n text (Some p) =
    BeginsWithLine text p.0.now p.1.now × (own_lines n text ≡ p.0.now ∷ own_lines n p.1.now)

-- all of them were taken
pub record IsTaken (n : ℕ) (text : List ℕ) (taken : Taken) : Type 0 where
  pub text_is : string_bytes taken.text ≡ joined_text n (own_lines n text)
  pub below_is : IsBelow (own_lines n text) text taken.below

-- ## The literal

-- the literal below a key at this column
pub record IsLiteral (column : ℕ) (chomping : Chomping) (more : List ℕ) (scalar : Scalar) : Type 0 where
  pub text_is : scalar.text ≡ chomped chomping (literal_text (literal_lines column (lines more)))
  pub below_is : IsBelow (literal_lines column (lines more)) more scalar.below
