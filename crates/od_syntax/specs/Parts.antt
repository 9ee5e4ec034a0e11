-- What paths, steps and surface patterns have in common: quantifiers, labels, and lists of parts.
use Rattle.std.specs.Prelude.{ℕ, List, [], ◌∷◌, Option, Some, None}
use Rattle.od_pattern.specs.declared.pattern.Field.TheVariants.{Incoming}
use Rattle.od_pattern.specs.declared.pattern.Value.{Value}
use Rattle.od_language.specs.declared.lexeme.LexKind.{LexKind}
use Rattle.od_language.specs.declared.lexeme.LexKind.TheVariants.{Range, Question, Star, Plus}
use Rattle.od_language.specs.Fields.{IsValue}

-- quantifier := '?' | '*' | '+' | Range: at least so many turns, and at most, where there is a most
pub data IsQuantifier : LexKind → ℕ → Option ℕ → Type 0 where
  maybe : IsQuantifier Question 0 (Some 1)
  any : IsQuantifier Star 0 None
  some : IsQuantifier Plus 1 None
  range : (least : ℕ) (most : Option ℕ) → IsQuantifier (Range least most) least most

-- the value that a lexeme stands for as an edge's label
abbrev pub IsLabel : LexKind → Value → Type 0
IsLabel = IsValue Incoming

-- a list of one part is that part
abbrev pub one_or : {P : Type 0} → (List P → P) → List P → P
one_or make (p ∷ []) = p
one_or make parts = make parts
