-- A surface pattern read one lexeme at a time: a means of proof, and of computing. No definition of the
-- language speaks of it.
use Rattle.std.specs.Prelude.{◌≡◌, ℕ, Bool, true, false, if◌then◌else◌, List, [], ◌∷◌, ◌++◌, Option, Some, None, Result, Ok, Err}
use Rattle.od_pattern.specs.declared.pattern.Field.TheVariants.{Norm}
use Rattle.od_pattern.specs.declared.pattern.Value.{Value}
use Rattle.od_pattern.specs.declared.pattern.Value.TheVariants.{Plain}
use Rattle.od_pattern.specs.declared.pattern.Value.TheVariants as value
use Rattle.od_pattern.specs.declared.pattern.Constraint.{Constraint}
use Rattle.od_pattern.specs.declared.pattern.Constraint.TheVariants as constraint_value
use Rattle.od_pattern.specs.declared.pattern.Surface.{Surface}
use Rattle.od_pattern.specs.declared.pattern.Surface.TheVariants as surface
use Rattle.od_language.specs.declared.pattern_fault.PatternKind.{PatternKind}
use Rattle.od_language.specs.declared.pattern_fault.PatternKind.TheVariants as kind
use Rattle.od_language.specs.declared.lexeme.LexKind.{LexKind}
use Rattle.od_language.specs.declared.lexeme.LexKind.TheVariants.{Word, Quoted, Regex, Range, NameOpen, AheadIs, AheadNot, BehindIs, BehindNot, SquareOpen, RoundOpen, RoundClose, Or, At, Question, Star, Plus, Caret, Dollar}
use Rattle.od_language.specs.Fields.{compared_text}
use Rattle.od_language.specs.Identifier.{is_identifier}
use Rattle.od_syntax.specs.Parts.{one_or}
use Rattle.od_language.specs.ConstraintMachine as constraint

-- the brackets that are open, the innermost first, each with the capture's name, if it opens one, and
-- the choices and the parts before it
pub data Around : Type 0 where
  top : Around
  round : Option (List ℕ) → List Surface → List Surface → Around → Around

-- which look a constraint stands in, if it stands in one
abbrev pub Looking : Type 0
Looking = Option (Bool × Bool)

-- Where the reading stands; a are the choices that are whole, s the parts of the one that is not, k the
-- open brackets.
-- `part` behind an atom, `counted` behind a quantifier, `turned` behind a part, `listed` behind a
-- choice, `whole` behind a surface: each takes what is its own, and what the next one takes.
pub data State : Type 0 where
  atom : List Surface → List Surface → Around → State
  name : List Surface → List Surface → Around → State
  look : Bool × Bool → List Surface → List Surface → Around → State
  inside : Looking → constraint.State → List Surface → List Surface → Around → State
  looked : Bool × Bool → Constraint → List Surface → List Surface → Around → State
  part : Surface → List Surface → List Surface → Around → State
  counted : Surface → ℕ → Option ℕ → List Surface → List Surface → Around → State
  turned : List Surface → List Surface → Around → State
  listed : List Surface → Around → State
  whole : Surface → Around → State

-- the parts of a choice as one pattern
abbrev pub in_order : List Surface → Surface
in_order = one_or surface.Seq

-- the choices as one pattern
abbrev pub any_of : List Surface → Surface
any_of = one_or surface.Alt

-- a repeat
abbrev pub repeat : Surface → ℕ → Option ℕ → Bool → Surface
repeat p least most lazy = surface.Repeat p (record { least = least; most = most; lazy = lazy })

-- what stands in brackets
abbrev pub closed : Option (List ℕ) → Surface → Surface
closed None p = p
closed (Some n) p = surface.Capture n p

-- a value that stands alone
abbrev pub norm : Value → Surface
norm v = surface.Token (constraint_value.Is Norm v)

-- behind a constraint
abbrev pub filled : Looking → Constraint → List Surface → List Surface → Around → State
filled None c a s k = part (surface.Token c) a s k
filled (Some w) c a s k = looked w c a s k

-- on from a constraint
abbrev pub carried : Result constraint.State PatternKind → Looking → List Surface → List Surface →
    Around → Result State PatternKind
carried (Ok (constraint.done c)) w a s k = Ok (filled w c a s k)
carried (Ok t) w a s k = Ok (inside w t a s k)
carried (Err e) w a s k = Err e

-- where an atom comes
abbrev pub step_atom : LexKind → List Surface → List Surface → Around → Result State PatternKind
step_atom SquareOpen a s k = Ok (inside None constraint.first a s k)
step_atom (Word t) a s k = Ok (part (norm (Plain (compared_text Norm t))) a s k)
step_atom (Quoted t) a s k = Ok (part (norm (Plain (compared_text Norm t))) a s k)
step_atom (Regex t) a s k = Ok (part (norm (value.Regex t)) a s k)
step_atom At a s k = Ok (name a s k)
step_atom RoundOpen a s k = Ok (atom [] [] (round None a s k))
step_atom (NameOpen n) a s k = Ok (atom [] [] (round (Some n) a s k))
step_atom AheadIs a s k = Ok (look (true, true) a s k)
step_atom AheadNot a s k = Ok (look (true, false) a s k)
step_atom BehindIs a s k = Ok (look (false, true) a s k)
step_atom BehindNot a s k = Ok (look (false, false) a s k)
step_atom Caret a s k = Ok (part surface.First a s k)
step_atom Dollar a s k = Ok (part surface.Last a s k)
step_atom x a s k = Err kind.Expected

-- a label, if the word is an identifier
abbrev pub named_if : Bool → List ℕ → List Surface → List Surface → Around → Result State PatternKind
named_if true t a s k = Ok (part (surface.Label t) a s k)
named_if false t a s k = Err kind.Expected

-- behind `@`
abbrev pub step_name : LexKind → List Surface → List Surface → Around → Result State PatternKind
step_name (Word t) a s k = named_if (is_identifier t) t a s k
step_name x a s k = Err kind.Expected

-- behind the opening of a look
abbrev pub step_look : LexKind → Bool × Bool → List Surface → List Surface → Around →
    Result State PatternKind
step_look SquareOpen w a s k = Ok (inside (Some w) constraint.first a s k)
step_look x w a s k = Err kind.Expected

-- behind the constraint of a look
abbrev pub step_looked : LexKind → Bool × Bool → Constraint → List Surface → List Surface → Around →
    Result State PatternKind
step_looked RoundClose w c a s k = Ok (part (surface.Look w.0 w.1 c) a s k)
step_looked x w c a s k = Err kind.Expected

-- behind a surface in brackets
abbrev pub step_closed : LexKind → Option (List ℕ) → Surface → List Surface → List Surface → Around →
    Result State PatternKind
step_closed RoundClose o p a s k = Ok (part (closed o p) a s k)
step_closed x o p a s k = Err kind.Expected

-- behind a surface
abbrev pub step_whole : LexKind → Surface → Around → Result State PatternKind
step_whole x p top = Err kind.Expected
step_whole x p (round o a s k) = step_closed x o p a s k

-- behind a choice
abbrev pub step_listed : LexKind → List Surface → Around → Result State PatternKind
step_listed Or a k = Ok (atom a [] k)
step_listed x a k = step_whole x (any_of a) k

-- what an atom begins with
abbrev pub begins_atom : LexKind → Bool
begins_atom SquareOpen = true
begins_atom (Word t) = true
begins_atom (Quoted t) = true
begins_atom (Regex t) = true
begins_atom At = true
begins_atom RoundOpen = true
begins_atom (NameOpen n) = true
begins_atom AheadIs = true
begins_atom AheadNot = true
begins_atom BehindIs = true
begins_atom BehindNot = true
begins_atom Caret = true
begins_atom Dollar = true
begins_atom x = false

-- behind a part
abbrev pub step_turned : LexKind → List Surface → List Surface → Around → Result State PatternKind
step_turned x a s k =
    if begins_atom x then step_atom x a s k else step_listed x (a ++ in_order s ∷ []) k

-- behind a quantifier
abbrev pub step_counted : LexKind → Surface → ℕ → Option ℕ → List Surface → List Surface → Around →
    Result State PatternKind
step_counted Question p least most a s k = Ok (turned a (s ++ repeat p least most true ∷ []) k)
step_counted x p least most a s k = step_turned x a (s ++ repeat p least most false ∷ []) k

-- a quantifier, if the body may be repeated so
abbrev pub counted_if : Bool → Surface → ℕ → Option ℕ → List Surface → List Surface → Around →
    Result State PatternKind
counted_if true p least most a s k = Ok (counted p least most a s k)
counted_if false p least most a s k = Err kind.NullableRepeat

module _ (may : Surface → Option ℕ → Bool) where
  -- behind an atom
  abbrev pub step_part : LexKind → Surface → List Surface → List Surface → Around →
      Result State PatternKind
  step_part Question p a s k = counted_if (may p (Some 1)) p 0 (Some 1) a s k
  step_part Star p a s k = counted_if (may p None) p 0 None a s k
  step_part Plus p a s k = counted_if (may p None) p 1 None a s k
  step_part (Range least most) p a s k = counted_if (may p most) p least most a s k
  step_part x p a s k = step_turned x a (s ++ p ∷ []) k

  -- the state behind one more lexeme, or why it does not fit
  abbrev pub step : State → LexKind → Result State PatternKind
  step (atom a s k) x = step_atom x a s k
  step (name a s k) x = step_name x a s k
  step (look w a s k) x = step_look x w a s k
  step (inside w c a s k) x = carried (constraint.step c x) w a s k
  step (looked w c a s k) x = step_looked x w c a s k
  step (part p a s k) x = step_part x p a s k
  step (counted p least most a s k) x = step_counted x p least most a s k
  step (turned a s k) x = step_turned x a s k
  step (listed a k) x = step_listed x a k
  step (whole p k) x = step_whole x p k

-- the pattern, where no bracket is open
abbrev pub at_top : Surface → Around → Option Surface
at_top p top = Some p
at_top p (round o a s k) = None

-- the pattern, where the machine may end
abbrev pub ended : State → Option Surface
ended (part p a s k) = at_top (any_of (a ++ in_order (s ++ p ∷ []) ∷ [])) k
ended (counted p least most a s k) =
    at_top (any_of (a ++ in_order (s ++ repeat p least most false ∷ []) ∷ [])) k
ended (turned a s k) = at_top (any_of (a ++ in_order s ∷ [])) k
ended (listed a k) = at_top (any_of a) k
ended (whole p k) = at_top p k
ended s = None

-- the same, where no choice came before it outside brackets
abbrev pub joins : State → Option Surface
joins (part p [] s top) = Some (in_order (s ++ p ∷ []))
joins (counted p least most [] s top) = Some (in_order (s ++ repeat p least most false ∷ []))
joins (turned [] s top) = Some (in_order s)
joins s = None

-- a body that may not be repeated so
abbrev pub unless_may : Bool → Option PatternKind
unless_may true = None
unless_may false = Some kind.NullableRepeat

-- the rule of the body that a quantifier repeats
abbrev pub repeat_rule_at : (Surface → Option ℕ → Bool) → LexKind → Surface → Option PatternKind
repeat_rule_at may Question p = unless_may (may p (Some 1))
repeat_rule_at may Star p = unless_may (may p None)
repeat_rule_at may Plus p = unless_may (may p None)
repeat_rule_at may (Range least most) p = unless_may (may p most)
repeat_rule_at may x p = None

abbrev pub repeat_rule : (Surface → Option ℕ → Bool) → State → LexKind → Option PatternKind
repeat_rule may (part p a s k) x = repeat_rule_at may x p
repeat_rule may s x = None

-- no quantifier
abbrev pub NoTurnsAt : LexKind → Type 0
NoTurnsAt x =
    (may : Surface → Option ℕ → Bool) (p : Surface) (a s : List Surface) (k : Around) →
    step_part may x p a s k ≡ step_turned x a (s ++ p ∷ []) k

-- no atom
abbrev pub NoAtomAt : LexKind → Type 0
NoAtomAt x = begins_atom x ≡ false

-- no choice
abbrev pub NoChoiceAt : LexKind → Type 0
NoChoiceAt x = (a : List Surface) (k : Around) → step_listed x a k ≡ step_whole x (any_of a) k

-- an atom
abbrev pub IsAtomAt : LexKind → Type 0
IsAtomAt x = begins_atom x ≡ true
