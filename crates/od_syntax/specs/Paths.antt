-- The grammar of paths. `Paths lexemes p rest`: a front of the lexemes is a path with the value p, and
-- the rest follows.
use Rattle.std.specs.Prelude.{ℕ, List, [], ◌∷◌, Option, Some, None}
use Rattle.od_pattern.specs.declared.pattern.Value.{Value}
use Rattle.od_pattern.specs.declared.pattern.Constraint.{Constraint}
use Rattle.od_pattern.specs.declared.path.Path.{Path}
use Rattle.od_pattern.specs.declared.path.Path.TheVariants as path
use Rattle.od_language.specs.declared.lexeme.LexKind.{LexKind}
use Rattle.od_language.specs.declared.lexeme.LexKind.TheVariants.{RoundOpen, RoundClose, Or, Along, Against, AnyAlong, AnyAgainst}
use Rattle.od_language.specs.Grammar.{IsConstraint}
use Rattle.od_syntax.specs.Parts.{IsQuantifier, IsLabel, one_or}

-- step := '>' value | '<' value | '>>' | '<<'
pub data Step : List LexKind → Path → List LexKind → Type 0 where
  along : (x : LexKind) (v : Value) (rest : List LexKind) → IsLabel x v →
      Step (Along ∷ x ∷ rest) (path.Along (Some v)) rest
  against : (x : LexKind) (v : Value) (rest : List LexKind) → IsLabel x v →
      Step (Against ∷ x ∷ rest) (path.Against (Some v)) rest
  any_along : (rest : List LexKind) → Step (AnyAlong ∷ rest) (path.Along None) rest
  any_against : (rest : List LexKind) → Step (AnyAgainst ∷ rest) (path.Against None) rest

mutual
  -- atom := step | constraint | '(' paths ')'
  pub data PathAtom : List LexKind → Path → List LexKind → Type 0 where
    step : (l : List LexKind) (p : Path) (rest : List LexKind) → Step l p rest → PathAtom l p rest
    filter : (l : List LexKind) (c : Constraint) (rest : List LexKind) → IsConstraint l c rest →
        PathAtom l (path.Filter c) rest
    group : (l : List LexKind) (p : Path) (rest : List LexKind) → Paths l p (RoundClose ∷ rest) →
        PathAtom (RoundOpen ∷ l) p rest

  -- part := atom quantifier?
  pub data PathPart : List LexKind → Path → List LexKind → Type 0 where
    once : (l : List LexKind) (p : Path) (rest : List LexKind) → PathAtom l p rest → PathPart l p rest
    repeated : (l : List LexKind) (p : Path) (x : LexKind) (least : ℕ) (most : Option ℕ) (rest : List LexKind) →
        PathAtom l p (x ∷ rest) → IsQuantifier x least most → PathPart l (path.Repeat p least most) rest

  -- part+
  pub data PathParts : List LexKind → List Path → List LexKind → Type 0 where
    last : (l : List LexKind) (p : Path) (rest : List LexKind) → PathPart l p rest →
        PathParts l (p ∷ []) rest
    more : (l : List LexKind) (p : Path) (m : List LexKind) (ps : List Path) (rest : List LexKind) →
        PathPart l p m → PathParts m ps rest → PathParts l (p ∷ ps) rest

  -- part+ ('|' part+)*
  pub data PathChoices : List LexKind → List Path → List LexKind → Type 0 where
    final : (l : List LexKind) (ps : List Path) (rest : List LexKind) → PathParts l ps rest →
        PathChoices l (one_or path.Seq ps ∷ []) rest
    next : (l : List LexKind) (ps : List Path) (m : List LexKind) (qs : List Path) (rest : List LexKind) →
        PathParts l ps (Or ∷ m) → PathChoices m qs rest → PathChoices l (one_or path.Seq ps ∷ qs) rest

  -- paths := part+ ('|' part+)*, which are one path where there is one choice
  pub data Paths : List LexKind → Path → List LexKind → Type 0 where
    choice : (l : List LexKind) (ps : List Path) (rest : List LexKind) → PathChoices l ps rest →
        Paths l (one_or path.Alt ps) rest
