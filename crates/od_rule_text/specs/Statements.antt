-- The statements of a rule file: each line that says something, with the lines of its literal.
-- Which lines belong to a literal depends on the line of its key alone,
-- so a file is cut before it is understood.
use Rattle.std.specs.Prelude.{ℕ, zero, suc, ◌+◌, ◌&&◌, Bool, List, [], ◌∷◌, length, drop, if◌then◌else◌, nat_eq, Option, None, Some, codes}
use Rattle.std.specs.List.{starts_with}
use Rattle.od_text.specs.Cuts.{split_once}
use Rattle.od_language.specs.Identifier.{is_identifier}
use Rattle.od_rule_text.specs.Texts.{begins_with}
use Rattle.od_rule_text.specs.Blanks.{indentation, says_nothing}
use Rattle.od_rule_text.specs.Scalars.{scalar_lines}

-- a line's number from 1, its indentation, what stands behind that, and the lines of its literal
pub record Statement : Type 0 where
  pub line : ℕ
  pub column : ℕ
  pub text : List ℕ
  pub below : List (List ℕ)

-- whether it begins with `- `
abbrev pub is_item : List ℕ → Bool
is_item text = starts_with nat_eq text (codes "- ")

-- the entry of a statement, which may stand behind `- `
abbrev pub entry_text : List ℕ → List ℕ
entry_text text = if is_item text then drop 2 text else text

-- the column at which that entry begins
abbrev pub entry_column : ℕ → List ℕ → ℕ
entry_column column text = if is_item text then column + 2 else column

-- an entry's key and what follows it
pub record Entry : Type 0 where
  pub key : List ℕ
  pub rest : List ℕ

-- of an entry that is cut at its first `:`
abbrev pub cut_entry : Option (List ℕ × List ℕ) → Option Entry
cut_entry None = None
cut_entry (Some p) =
    if is_identifier p.0 && begins_with 32 p.1
    then Some (record { key = p.0; rest = drop 1 p.1 })
    else None

-- an entry is a key, `:` and a space, and then a scalar
abbrev pub entry_of : List ℕ → Option Entry
entry_of text = cut_entry (split_once 58 (entry_text text))

-- the lines that belong to an entry at this column, of those below it
abbrev pub entry_lines : ℕ → Option Entry → List (List ℕ) → List (List ℕ)
entry_lines column None lines = []
entry_lines column (Some entry) lines = scalar_lines column entry.rest lines

-- the statement of what stands behind an indentation
abbrev pub statement_at : (line column : ℕ) → List ℕ → List (List ℕ) → Statement
statement_at line column text lines = record {
  line = line;
  column = column;
  text = text;
  below = entry_lines (entry_column column text) (entry_of text) lines;
}

-- the statement of a line of this number, with the lines that follow it
abbrev pub statement_of : ℕ → List ℕ → List (List ℕ) → Statement
statement_of n line lines = statement_at n (indentation line) (drop (indentation line) line) lines

-- the statements of lines, the first of which has the number n;
-- the first k of them belong to the statement before
abbrev pub statements : (n k : ℕ) → List (List ℕ) → List Statement
statements n k [] = []
statements n (suc k) (line ∷ lines) = statements (n + 1) k lines
statements n zero (line ∷ lines) =
    if says_nothing line then statements (n + 1) 0 lines else
    statement_of n line lines ∷ statements (n + 1) (length (statement_of n line lines).below) lines
