-- A constraint written out in lexemes, with as few brackets as the grammar lets it have.
use Rattle.std.specs.Prelude.{◌≡◌, List, [], ◌∷◌, ◌++◌}
use Rattle.od_pattern.specs.declared.pattern.Field.{Field}
use Rattle.od_pattern.specs.declared.pattern.Value.{Value}
use Rattle.od_pattern.specs.declared.pattern.Value.TheVariants.{Plain}
use Rattle.od_pattern.specs.declared.pattern.Value.TheVariants as value
use Rattle.od_pattern.specs.declared.pattern.Constraint.{Constraint, end_of-Constraint, more_of-Constraint}
use Rattle.od_pattern.specs.declared.pattern.Constraint.TheVariants.{Any, Is, Not', And', Or'}
use Rattle.od_language.specs.declared.lexeme.LexKind.{LexKind}
use Rattle.od_language.specs.declared.lexeme.LexKind.TheVariants.{Word, Quoted, SquareOpen, SquareClose, RoundOpen, RoundClose, And, Or, Not, Equal}
use Rattle.od_language.specs.declared.lexeme.LexKind.TheVariants as lexeme
use Rattle.od_language.specs.Fields.{field_name, compared_text}

-- a value behind `field=`
abbrev pub value_written : Value → LexKind
value_written (Plain text) = Quoted text
value_written (value.Regex text) = lexeme.Regex text

-- a constraint in the three places of the grammar
pub record Forms : Type 0 where
  pub as_or : List LexKind
  pub as_and : List LexKind
  pub as_unary : List LexKind

-- in brackets
abbrev pub grouped : List LexKind → List LexKind
grouped l = RoundOpen ∷ (l ++ RoundClose ∷ [])

-- an operand stands anywhere
abbrev pub unary_form : List LexKind → Forms
unary_form l = record { as_or = l; as_and = l; as_unary = l }

-- an `and` stands in brackets as an operand
abbrev pub and_form : List LexKind → Forms
and_form l = record { as_or = l; as_and = l; as_unary = grouped l }

-- an `or` stands in brackets as a part of an `and`, and as an operand
abbrev pub or_form : List LexKind → Forms
or_form l = record { as_or = l; as_and = grouped l; as_unary = grouped l }

-- each operand with the brackets that it needs
abbrev pub forms : Constraint → Forms
forms Any = unary_form []
forms (Is f v) = unary_form (Word (field_name f) ∷ Equal ∷ value_written v ∷ [])
forms (Not' s (more_of-Constraint c end_of-Constraint)) = unary_form (Not ∷ (forms c).as_unary)
forms (And' s (more_of-Constraint a end_of-Constraint) q (more_of-Constraint b end_of-Constraint)) =
    and_form ((forms a).as_and ++ And ∷ (forms b).as_unary)
forms (Or' s (more_of-Constraint a end_of-Constraint) q (more_of-Constraint b end_of-Constraint)) =
    or_form ((forms a).as_or ++ Or ∷ (forms b).as_and)

-- the lexemes of a constraint
abbrev pub written : Constraint → List LexKind
written Any = SquareOpen ∷ SquareClose ∷ []
written c = SquareOpen ∷ ((forms c).as_or ++ SquareClose ∷ [])

-- whether a value is one that the field is compared with: a norm is folded
abbrev pub IsCompared : Field → Value → Type 0
IsCompared f (Plain text) = compared_text f text ≡ text
IsCompared f (value.Regex text) = Unit {0}

-- a constraint that can stand inside another: the empty one cannot
abbrev pub IsOperand : Constraint → Type 0
IsOperand Any = ⊥
IsOperand (Is f v) = IsCompared f v
IsOperand (Not' s (more_of-Constraint c end_of-Constraint)) = IsOperand c
IsOperand (And' s (more_of-Constraint a end_of-Constraint) q (more_of-Constraint b end_of-Constraint)) = IsOperand a × IsOperand b
IsOperand (Or' s (more_of-Constraint a end_of-Constraint) q (more_of-Constraint b end_of-Constraint)) = IsOperand a × IsOperand b

-- a constraint that can be written
abbrev pub IsWritable : Constraint → Type 0
IsWritable Any = Unit {0}
IsWritable c = IsOperand c
