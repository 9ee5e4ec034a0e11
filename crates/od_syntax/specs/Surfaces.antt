-- The grammar of surface patterns. `Surfaces may lexemes p rest`: a front of the lexemes is a surface
-- with the value p, and the rest follows.
-- A body may be repeated with this most, or without one, where `may body most` is true.
use Rattle.std.specs.Prelude.{◌≡◌, ℕ, Bool, true, false, List, [], ◌∷◌, Option}
use Rattle.od_pattern.specs.declared.pattern.Field.TheVariants.{Norm}
use Rattle.od_pattern.specs.declared.pattern.Value.{Value}
use Rattle.od_pattern.specs.declared.pattern.Constraint.{Constraint}
use Rattle.od_pattern.specs.declared.pattern.Constraint.TheVariants as constraint
use Rattle.od_pattern.specs.declared.pattern.Turns.{Turns}
use Rattle.od_pattern.specs.declared.pattern.Surface.{Surface}
use Rattle.od_pattern.specs.declared.pattern.Surface.TheVariants as surface
use Rattle.od_language.specs.declared.lexeme.LexKind.{LexKind}
use Rattle.od_language.specs.declared.lexeme.LexKind.TheVariants.{Word, NameOpen, AheadIs, AheadNot, BehindIs, BehindNot, RoundOpen, RoundClose, Or, At, Caret, Dollar, Question}
use Rattle.od_language.specs.Fields.{IsValue}
use Rattle.od_language.specs.Identifier.{is_identifier}
use Rattle.od_language.specs.Grammar.{IsConstraint}
use Rattle.od_syntax.specs.Parts.{IsQuantifier, one_or}

-- the opening of a look at the token at the place, or at the one before it, which must fit or must not
pub data IsLook : LexKind → Bool → Bool → Type 0 where
  ahead : IsLook AheadIs true true
  ahead_not : IsLook AheadNot true false
  behind : IsLook BehindIs false true
  behind_not : IsLook BehindNot false false

-- atoms without patterns inside: constraint | value | '@' Word | look constraint ')' | '^' | '$'
pub data Single : List LexKind → Surface → List LexKind → Type 0 where
  token : (l : List LexKind) (c : Constraint) (rest : List LexKind) → IsConstraint l c rest →
      Single l (surface.Token c) rest
  value : (x : LexKind) (v : Value) (rest : List LexKind) → IsValue Norm x v →
      Single (x ∷ rest) (surface.Token (constraint.Is Norm v)) rest
  -- the name is an identifier; texts that lexemes carry are in UTF-8, where identifiers have a byte a
  -- letter
  label : (name : List ℕ) (rest : List LexKind) → is_identifier name ≡ true →
      Single (At ∷ Word name ∷ rest) (surface.Label name) rest
  look : (x : LexKind) (ahead positive : Bool) (l : List LexKind) (c : Constraint) (rest : List LexKind) → IsLook x ahead positive →
      IsConstraint l c (RoundClose ∷ rest) → Single (x ∷ l) (surface.Look ahead positive c) rest
  first : (rest : List LexKind) → Single (Caret ∷ rest) surface.First rest
  last : (rest : List LexKind) → Single (Dollar ∷ rest) surface.Last rest

-- quantifier '?'?: the second `?` prefers fewer turns
pub data IsTurns : List LexKind → Turns → List LexKind → Type 0 where
  greedy : (x : LexKind) (least : ℕ) (most : Option ℕ) (rest : List LexKind) →
      IsQuantifier x least most →
      IsTurns (x ∷ rest) (record { least = least; most = most; lazy = false }) rest
  lazy : (x : LexKind) (least : ℕ) (most : Option ℕ) (rest : List LexKind) →
      IsQuantifier x least most →
      IsTurns (x ∷ Question ∷ rest) (record { least = least; most = most; lazy = true }) rest

mutual
  -- atom := single | '(' surface ')' | NameOpen surface ')'
  pub data SurfaceAtom (may : Surface → Option ℕ → Bool) : List LexKind → Surface → List LexKind →
      Type 0 where
    single : (l : List LexKind) (p : Surface) (rest : List LexKind) → Single l p rest →
        SurfaceAtom may l p rest
    group : (l : List LexKind) (p : Surface) (rest : List LexKind) →
        Surfaces may l p (RoundClose ∷ rest) → SurfaceAtom may (RoundOpen ∷ l) p rest
    capture : (name : List ℕ) (l : List LexKind) (p : Surface) (rest : List LexKind) →
        Surfaces may l p (RoundClose ∷ rest) →
        SurfaceAtom may (NameOpen name ∷ l) (surface.Capture name p) rest

  -- part := atom turns?
  pub data SurfacePart (may : Surface → Option ℕ → Bool) : List LexKind → Surface → List LexKind →
      Type 0 where
    once : (l : List LexKind) (p : Surface) (rest : List LexKind) → SurfaceAtom may l p rest →
        SurfacePart may l p rest
    repeated : (l : List LexKind) (p : Surface) (m : List LexKind) (turns : Turns) (rest : List LexKind) →
        SurfaceAtom may l p m → IsTurns m turns rest → may p turns.most ≡ true →
        SurfacePart may l (surface.Repeat p turns) rest

  -- part+
  pub data SurfaceParts (may : Surface → Option ℕ → Bool) : List LexKind → List Surface →
      List LexKind → Type 0 where
    last : (l : List LexKind) (p : Surface) (rest : List LexKind) → SurfacePart may l p rest →
        SurfaceParts may l (p ∷ []) rest
    more : (l : List LexKind) (p : Surface) (m : List LexKind) (ps : List Surface) (rest : List LexKind) →
        SurfacePart may l p m → SurfaceParts may m ps rest → SurfaceParts may l (p ∷ ps) rest

  -- part+ ('|' part+)*
  pub data SurfaceChoices (may : Surface → Option ℕ → Bool) : List LexKind → List Surface →
      List LexKind → Type 0 where
    final : (l : List LexKind) (ps : List Surface) (rest : List LexKind) →
        SurfaceParts may l ps rest → SurfaceChoices may l (one_or surface.Seq ps ∷ []) rest
    next : (l : List LexKind) (ps : List Surface) (m : List LexKind) (qs : List Surface) (rest : List LexKind) →
        SurfaceParts may l ps (Or ∷ m) → SurfaceChoices may m qs rest →
        SurfaceChoices may l (one_or surface.Seq ps ∷ qs) rest

  -- surface := part+ ('|' part+)*
  pub data Surfaces (may : Surface → Option ℕ → Bool) : List LexKind → Surface → List LexKind →
      Type 0 where
    choice : (l : List LexKind) (ps : List Surface) (rest : List LexKind) →
        SurfaceChoices may l ps rest → Surfaces may l (one_or surface.Alt ps) rest
