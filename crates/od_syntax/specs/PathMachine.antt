-- A path read one lexeme at a time: a means of proof, and of computing. No definition of the language
-- speaks of it.
use Rattle.std.specs.Prelude.{◌≡◌, Bool, true, false, List, [], ◌∷◌, ◌++◌, Option, Some, None, Result, Ok, Err}
use Rattle.od_pattern.specs.declared.pattern.Value.{Value}
use Rattle.od_pattern.specs.declared.pattern.Value.TheVariants.{Plain}
use Rattle.od_pattern.specs.declared.pattern.Value.TheVariants as value
use Rattle.od_pattern.specs.declared.path.Path.{Path}
use Rattle.od_pattern.specs.declared.path.Path.TheVariants as path
use Rattle.od_language.specs.declared.pattern_fault.PatternKind.{PatternKind}
use Rattle.od_language.specs.declared.pattern_fault.PatternKind.TheVariants as kind
use Rattle.od_language.specs.declared.lexeme.LexKind.{LexKind}
use Rattle.od_language.specs.declared.lexeme.LexKind.TheVariants.{Word, Quoted, Regex, Range, SquareOpen, RoundOpen, RoundClose, Or, Along, Against, AnyAlong, AnyAgainst, Question, Star, Plus}
use Rattle.od_syntax.specs.Parts.{one_or}
use Rattle.od_language.specs.ConstraintMachine as constraint

-- the brackets that are open, the innermost first, each with the choices and the parts before it
pub data Around : Type 0 where
  top : Around
  round : List Path → List Path → Around → Around

-- Where the reading stands; a are the choices that are whole, s the parts of the one that is not, k the
-- open brackets.
-- `part` behind an atom, `turned` behind a part, `listed` behind a choice, `whole` behind a path: each
-- takes what is its own, and what the next one takes.
pub data State : Type 0 where
  atom : List Path → List Path → Around → State
  label : Bool → List Path → List Path → Around → State
  inside : constraint.State → List Path → List Path → Around → State
  part : Path → List Path → List Path → Around → State
  turned : List Path → List Path → Around → State
  listed : List Path → Around → State
  whole : Path → Around → State

-- the parts of a choice as one path
abbrev pub in_order : List Path → Path
in_order = one_or path.Seq

-- the choices as one path
abbrev pub any_of : List Path → Path
any_of = one_or path.Alt

-- an edge with a label
abbrev pub edge : Bool → Option Value → Path
edge true v = path.Along v
edge false v = path.Against v

-- on from a constraint
abbrev pub carried : Result constraint.State PatternKind → List Path → List Path → Around →
    Result State PatternKind
carried (Ok (constraint.done c)) a s k = Ok (part (path.Filter c) a s k)
carried (Ok t) a s k = Ok (inside t a s k)
carried (Err e) a s k = Err e

-- where an atom comes
abbrev pub step_atom : LexKind → List Path → List Path → Around → Result State PatternKind
step_atom Along a s k = Ok (label true a s k)
step_atom Against a s k = Ok (label false a s k)
step_atom AnyAlong a s k = Ok (part (edge true None) a s k)
step_atom AnyAgainst a s k = Ok (part (edge false None) a s k)
step_atom SquareOpen a s k = Ok (inside constraint.first a s k)
step_atom RoundOpen a s k = Ok (atom [] [] (round a s k))
step_atom x a s k = Err kind.Expected

-- behind `>` or `<`
abbrev pub step_label : LexKind → Bool → List Path → List Path → Around → Result State PatternKind
step_label (Word t) b a s k = Ok (part (edge b (Some (Plain t))) a s k)
step_label (Quoted t) b a s k = Ok (part (edge b (Some (Plain t))) a s k)
step_label (Regex t) b a s k = Ok (part (edge b (Some (value.Regex t))) a s k)
step_label x b a s k = Err kind.Expected

-- behind a path in brackets
abbrev pub step_closed : LexKind → Path → List Path → List Path → Around → Result State PatternKind
step_closed RoundClose p a s k = Ok (part p a s k)
step_closed x p a s k = Err kind.Expected

-- behind a path
abbrev pub step_whole : LexKind → Path → Around → Result State PatternKind
step_whole x p top = Err kind.Expected
step_whole x p (round a s k) = step_closed x p a s k

-- behind a choice
abbrev pub step_listed : LexKind → List Path → Around → Result State PatternKind
step_listed Or a k = Ok (atom a [] k)
step_listed x a k = step_whole x (any_of a) k

-- behind a part
abbrev pub step_turned : LexKind → List Path → List Path → Around → Result State PatternKind
step_turned Along a s k = step_atom Along a s k
step_turned Against a s k = step_atom Against a s k
step_turned AnyAlong a s k = step_atom AnyAlong a s k
step_turned AnyAgainst a s k = step_atom AnyAgainst a s k
step_turned SquareOpen a s k = step_atom SquareOpen a s k
step_turned RoundOpen a s k = step_atom RoundOpen a s k
step_turned x a s k = step_listed x (a ++ in_order s ∷ []) k

-- behind an atom
abbrev pub step_part : LexKind → Path → List Path → List Path → Around → Result State PatternKind
step_part Question p a s k = Ok (turned a (s ++ path.Repeat p 0 (Some 1) ∷ []) k)
step_part Star p a s k = Ok (turned a (s ++ path.Repeat p 0 None ∷ []) k)
step_part Plus p a s k = Ok (turned a (s ++ path.Repeat p 1 None ∷ []) k)
step_part (Range least most) p a s k = Ok (turned a (s ++ path.Repeat p least most ∷ []) k)
step_part x p a s k = step_turned x a (s ++ p ∷ []) k

-- the state behind one more lexeme, or why it does not fit
abbrev pub step : State → LexKind → Result State PatternKind
step (atom a s k) x = step_atom x a s k
step (label b a s k) x = step_label x b a s k
step (inside c a s k) x = carried (constraint.step c x) a s k
step (part p a s k) x = step_part x p a s k
step (turned a s k) x = step_turned x a s k
step (listed a k) x = step_listed x a k
step (whole p k) x = step_whole x p k

-- the path, where no bracket is open
abbrev pub at_top : Path → Around → Option Path
at_top p top = Some p
at_top p (round a s k) = None

-- the path, where the machine may end
abbrev pub ended : State → Option Path
ended (part p a s k) = at_top (any_of (a ++ in_order (s ++ p ∷ []) ∷ [])) k
ended (turned a s k) = at_top (any_of (a ++ in_order s ∷ [])) k
ended (listed a k) = at_top (any_of a) k
ended (whole p k) = at_top p k
ended s = None

-- no quantifier
abbrev pub NoTurnsAt : LexKind → Type 0
NoTurnsAt x =
    (p : Path) (a s : List Path) (k : Around) → step_part x p a s k ≡ step_turned x a (s ++ p ∷ []) k

-- no atom
abbrev pub NoAtomAt : LexKind → Type 0
NoAtomAt x =
    (a s : List Path) (k : Around) → step_turned x a s k ≡ step_listed x (a ++ in_order s ∷ []) k

-- no choice
abbrev pub NoChoiceAt : LexKind → Type 0
NoChoiceAt x = (a : List Path) (k : Around) → step_listed x a k ≡ step_whole x (any_of a) k

-- what an atom begins with
abbrev pub begins_atom : LexKind → Bool
begins_atom Along = true
begins_atom Against = true
begins_atom AnyAlong = true
begins_atom AnyAgainst = true
begins_atom SquareOpen = true
begins_atom RoundOpen = true
begins_atom x = false

-- an atom
abbrev pub IsAtomAt : LexKind → Type 0
IsAtomAt x = begins_atom x ≡ true
