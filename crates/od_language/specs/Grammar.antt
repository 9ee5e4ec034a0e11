-- The grammar of a constraint, on lexemes without their places. `Ors lexemes c rest`: a front of the
-- lexemes is an `or` with the value c, and the rest follows.
use Rattle.std.specs.Prelude.{◌≡◌, ℕ, List, ◌∷◌, Some}
use Rattle.od_pattern.specs.declared.pattern.Field.{Field}
use Rattle.od_pattern.specs.declared.pattern.Value.{Value}
use Rattle.od_pattern.specs.declared.pattern.Constraint.{Constraint}
use Rattle.od_pattern.specs.declared.pattern.Constraint.TheVariants as constraint
use Rattle.od_language.specs.declared.lexeme.LexKind.{LexKind}
use Rattle.od_language.specs.declared.lexeme.LexKind.TheVariants.{Word, SquareOpen, SquareClose, RoundOpen, RoundClose, And, Or, Not, Equal}
use Rattle.od_language.specs.Fields.{field_named, IsValue}

mutual
  -- unary := '!' unary | '(' or ')' | Word '=' value
  pub data Unary : List LexKind → Constraint → List LexKind → Type 0 where
    negation : (l : List LexKind) (c : Constraint) (rest : List LexKind) → Unary l c rest →
        Unary (Not ∷ l) (constraint.Not c) rest
    group : (l : List LexKind) (c : Constraint) (rest : List LexKind) → Ors l c (RoundClose ∷ rest) →
        Unary (RoundOpen ∷ l) c rest
    test : (name : List ℕ) (f : Field) (x : LexKind) (v : Value) (rest : List LexKind) →
        field_named name ≡ Some f → IsValue f x v →
        Unary (Word name ∷ Equal ∷ x ∷ rest) (constraint.Is f v) rest

  -- and := unary ('&' unary)*, grouped to the left
  pub data Ands : List LexKind → Constraint → List LexKind → Type 0 where
    one : (l : List LexKind) (c : Constraint) (rest : List LexKind) → Unary l c rest → Ands l c rest
    more : (l : List LexKind) (a : Constraint) (m : List LexKind) (b : Constraint) (rest : List LexKind) →
        Ands l a (And ∷ m) → Unary m b rest → Ands l (constraint.And a b) rest

  -- or := and ('|' and)*, grouped to the left
  pub data Ors : List LexKind → Constraint → List LexKind → Type 0 where
    first : (l : List LexKind) (c : Constraint) (rest : List LexKind) → Ands l c rest → Ors l c rest
    next : (l : List LexKind) (a : Constraint) (m : List LexKind) (b : Constraint) (rest : List LexKind) →
        Ors l a (Or ∷ m) → Ands m b rest → Ors l (constraint.Or a b) rest

-- constraint := '[' ']' | '[' or ']'
pub data IsConstraint : List LexKind → Constraint → List LexKind → Type 0 where
  empty : (rest : List LexKind) → IsConstraint (SquareOpen ∷ SquareClose ∷ rest) constraint.Any rest
  some : (l : List LexKind) (c : Constraint) (rest : List LexKind) → Ors l c (SquareClose ∷ rest) →
      IsConstraint (SquareOpen ∷ l) c rest
