-- The grammars of steps and of hops, over lexemes told apart. `Hops may lexemes hop rest`: a front of
-- the lexemes is a hop,
-- and the rest follows; its bodies may be repeated where `may` is true.
use Rattle.std.specs.Prelude.{ℕ, Bool, List, [], ◌∷◌, ◌++◌, Option}
use Rattle.od_pattern.specs.declared.pattern.Surface.{Surface}
use Rattle.od_pattern.specs.declared.pattern.Surface.TheVariants as surface
use Rattle.od_pattern.specs.declared.path.Path.{Path}
use Rattle.od_pattern.specs.declared.path.Path.TheVariants as path
use Rattle.od_pattern.specs.declared.rule.HopPart.{HopPart}
use Rattle.od_pattern.specs.declared.rule.Hop.{Hop}
use Rattle.od_language.specs.declared.pattern_fault.PatternKind.TheVariants as kind
use Rattle.od_language.specs.declared.lexeme.LexKind.{LexKind}
use Rattle.od_language.specs.declared.lexeme.LexKind.TheVariants.{RoundClose}
use Rattle.od_language.specs.Depth.{BreaksRule}
use Rattle.od_language.specs.FirstFault.{Rules}
use Rattle.od_language.specs.Machine.{Rule}
use Rattle.od_language.specs.Narrower.{BreaksInOrder}
use Rattle.od_syntax.specs.Parts.{IsQuantifier, one_or}
use Rattle.od_syntax.specs.Paths.{Step, Paths}
use Rattle.od_syntax.specs.Rules.{bad_range, capture_or_own}
use Rattle.od_syntax.specs.Sizes.{may_repeat, may_always}
use Rattle.od_syntax.specs.Surfaces.{SurfaceParts, Surfaces}
use Rattle.od_syntax.specs.Told.{Told, lexeme, steps_open, as_told, untold, all_untold}

-- atom := '>' value | '<' value | '>>' | '<<' | '(' paths ')', where the bracket opens steps; inside it
-- each `(` is a path's
pub data StepAtom : List Told → Path → List Told → Type 0 where
  step : (word : List LexKind) (p : Path) (rest : List Told) → Step word p [] →
      StepAtom (as_told word ++ rest) p rest
  group : (word : List Told) (p : Path) (rest : List Told) → Paths (all_untold word) p [] →
      StepAtom (steps_open ∷ (word ++ lexeme RoundClose ∷ rest)) p rest

-- part := atom quantifier?
pub data StepPart : List Told → Path → List Told → Type 0 where
  once : (l : List Told) (p : Path) (rest : List Told) → StepAtom l p rest → StepPart l p rest
  repeated : (l : List Told) (p : Path) (x : LexKind) (least : ℕ) (most : Option ℕ) (rest : List Told) →
      StepAtom l p (lexeme x ∷ rest) → IsQuantifier x least most →
      StepPart l (path.Repeat p least most) rest

-- part+
pub data StepParts : List Told → List Path → List Told → Type 0 where
  last : (l : List Told) (p : Path) (rest : List Told) → StepPart l p rest → StepParts l (p ∷ []) rest
  more : (l : List Told) (p : Path) (m : List Told) (ps : List Path) (rest : List Told) →
      StepPart l p m → StepParts m ps rest → StepParts l (p ∷ ps) rest

-- steps := part+, without choices outside brackets
pub data Steps : List Told → Path → List Told → Type 0 where
  all : (l : List Told) (ps : List Path) (rest : List Told) → StepParts l ps rest →
      Steps l (one_or path.Seq ps) rest

-- the rules of steps, before which so many brackets are open
abbrev pub BreaksSteps : ℕ → Rules Told
BreaksSteps opened front x k = BreaksRule opened (all_untold front) (untold x) k

module _ (may : Surface → Option ℕ → Bool) where
  -- concat := part+ of a surface
  pub data Concat : List Told → Surface → List Told → Type 0 where
    all : (word : List LexKind) (ps : List Surface) (rest : List Told) → SurfaceParts may word ps [] →
        Concat (as_told word ++ rest) (one_or surface.Seq ps) rest

  -- (steps concat)+
  pub data HopParts : List Told → List HopPart → List Told → Type 0 where
    last : (l : List Told) (p : Path) (m : List Told) (s : Surface) (rest : List Told) →
        Steps l p m → Concat m s rest → HopParts l (record { path = p; surface = s } ∷ []) rest
    more : (l : List Told) (p : Path) (m : List Told) (s : Surface) (n : List Told) (parts : List HopPart) (rest : List Told) →
        Steps l p m → Concat m s n → HopParts n parts rest → HopParts l (record { path = p; surface = s } ∷ parts) rest

  -- hop := surface | concat (steps concat)+
  pub data Hops : List Told → Hop → List Told → Type 0 where
    alone : (word : List LexKind) (s : Surface) (rest : List Told) → Surfaces may word s [] →
        Hops (as_told word ++ rest) (record { first = s; rest = [] }) rest
    joined : (l : List Told) (s : Surface) (m : List Told) (parts : List HopPart) (rest : List Told) →
        Concat l s m → HopParts m parts rest → Hops l (record { first = s; rest = parts }) rest

-- a rule of lexemes, on lexemes told apart
abbrev pub rule_untold : Rule LexKind → Rule Told
rule_untold rule front x = rule (all_untold front) (untold x)

-- the rules of a hop are those of a surface
abbrev pub BreaksHop : Rules Told
BreaksHop =
    BreaksInOrder (Hops may_always) (Hops may_repeat) (rule_untold bad_range) kind.NullableRepeat (rule_untold capture_or_own)
