-- A choice outside brackets stays one: each step of the machine of surfaces keeps whether none has come, but for a `|` outside brackets.
use Rattle.std.proofs.Common.{◌≡◌, ℕ, Bool, true, false, if◌then◌else◌, List, [], ◌∷◌, ◌++◌, Option, Some, None, Result, Ok, Err, refl}
use Rattle.od_pattern.specs.declared.pattern.Constraint.{Constraint}
use Rattle.od_pattern.specs.declared.pattern.Surface.{Surface}
use Rattle.od_language.specs.declared.pattern_fault.PatternKind.{PatternKind}
use Rattle.od_language.specs.declared.lexeme.LexKind.{LexKind}
use Rattle.od_language.specs.declared.lexeme.LexKind.TheVariants.{Word, Quoted, Regex, Range, NameOpen, AheadIs, AheadNot, BehindIs, BehindNot, SquareOpen, RoundOpen, RoundClose, Or, At, Question, Star, Plus, Caret, Dollar}
use Rattle.od_language.specs.Identifier.{is_identifier}
use Rattle.od_language.specs.ConstraintMachine as constraint
use Rattle.od_syntax.specs.HopMachine.{bars_in, bars}
use Rattle.od_syntax.specs.SurfaceMachine.{Looking, Around, top, round, State, atom, name, look, inside, looked, part, counted, turned, listed, whole, in_order, any_of, repeat, filled, carried, named_if, counted_if, step, joins}
use Rattle.od_syntax.specs.SurfaceMachine as machine

-- outside brackets no choice is whole
abbrev pub none_whole : List Surface → Around → Bool
none_whole [] top = true
none_whole (p ∷ a) top = false
none_whole a (round o b s k) = none_whole b k

abbrev pub is_single : State → Bool
is_single (atom a s k) = none_whole a k
is_single (name a s k) = none_whole a k
is_single (look w a s k) = none_whole a k
is_single (inside w c a s k) = none_whole a k
is_single (looked w c a s k) = none_whole a k
is_single (part p a s k) = none_whole a k
is_single (counted p least most a s k) = none_whole a k
is_single (turned a s k) = none_whole a k
is_single (listed a k) = none_whole a k
is_single (whole p k) = none_whole (p ∷ []) k

-- the state behind a step, if any, is single or is not
abbrev pub IsSingleBy : Bool → Result State PatternKind → Type 0
IsSingleBy b (Ok t) = is_single t ≡ b
IsSingleBy b (Err k) = Unit {0}

by_atom : (x : LexKind) (a s : List Surface) (k : Around) → IsSingleBy (none_whole a k) (machine.step_atom x a s k)
by_atom SquareOpen a s k = refl
by_atom (Word t) a s k = refl
by_atom (Quoted t) a s k = refl
by_atom (Regex t) a s k = refl
by_atom At a s k = refl
by_atom RoundOpen a s k = refl
by_atom (NameOpen n) a s k = refl
by_atom AheadIs a s k = refl
by_atom AheadNot a s k = refl
by_atom BehindIs a s k = refl
by_atom BehindNot a s k = refl
by_atom Caret a s k = refl
by_atom Dollar a s k = refl
by_atom x a s k = tt

by_named : (b : Bool) (t : List ℕ) (a s : List Surface) (k : Around) → IsSingleBy (none_whole a k) (named_if b t a s k)
by_named true t a s k = refl
by_named false t a s k = tt

by_name : (x : LexKind) (a s : List Surface) (k : Around) → IsSingleBy (none_whole a k) (machine.step_name x a s k)
by_name (Word t) a s k = by_named (is_identifier t) t a s k
by_name x a s k = tt

by_look : (x : LexKind) (w : Bool × Bool) (a s : List Surface) (k : Around) → IsSingleBy (none_whole a k) (machine.step_look x w a s k)
by_look SquareOpen w a s k = refl
by_look x w a s k = tt

by_looked : (x : LexKind) (w : Bool × Bool) (c : Constraint) (a s : List Surface) (k : Around) → IsSingleBy (none_whole a k) (machine.step_looked x w c a s k)
by_looked RoundClose w c a s k = refl
by_looked x w c a s k = tt

by_closed : (x : LexKind) (o : Option (List ℕ)) (p : Surface) (a s : List Surface) (k : Around) → IsSingleBy (none_whole a k) (machine.step_closed x o p a s k)
by_closed RoundClose o p a s k = refl
by_closed x o p a s k = tt

by_whole : (x : LexKind) (p : Surface) (a : List Surface) (k : Around) → IsSingleBy (none_whole a k) (machine.step_whole x p k)
by_whole x p a top = tt
by_whole x p a (round o b s k) = by_closed x o p b s k

by_listed : (x : LexKind) (a : List Surface) (k : Around) → IsSingleBy (none_whole a k) (machine.step_listed x a k)
by_listed Or a k = refl
by_listed x a k = by_whole x (any_of a) a k

none_whole_more : (a : List Surface) (p : Surface) → none_whole (a ++ p ∷ []) top ≡ false
none_whole_more [] p = refl
none_whole_more (x ∷ a) p = refl

-- a choice behind others
by_choice : (x : LexKind) (a : List Surface) (p : Surface) (k : Around) → IsSingleBy (if bars_in x k then false else none_whole a k) (machine.step_listed x (a ++ p ∷ []) k)
by_choice Or a p top = none_whole_more a p
by_choice Or a p (round o b s k) = refl
by_choice x a p k = by_whole x (any_of (a ++ p ∷ [])) a k

by_turned : (x : LexKind) (a s : List Surface) (k : Around) → IsSingleBy (if bars_in x k then false else none_whole a k) (machine.step_turned x a s k)
by_turned SquareOpen a s k = refl
by_turned (Word t) a s k = refl
by_turned (Quoted t) a s k = refl
by_turned (Regex t) a s k = refl
by_turned At a s k = refl
by_turned RoundOpen a s k = refl
by_turned (NameOpen n) a s k = refl
by_turned AheadIs a s k = refl
by_turned AheadNot a s k = refl
by_turned BehindIs a s k = refl
by_turned BehindNot a s k = refl
by_turned Caret a s k = refl
by_turned Dollar a s k = refl
by_turned x a s k = by_choice x a (in_order s) k

by_counted : (x : LexKind) (p : Surface) (n : ℕ) (m : Option ℕ) (a s : List Surface) (k : Around) →
    IsSingleBy (if bars_in x k then false else none_whole a k) (machine.step_counted x p n m a s k)
by_counted Question p n m a s k = refl
by_counted x p n m a s k = by_turned x a (s ++ repeat p n m false ∷ []) k

by_count : (b : Bool) (p : Surface) (n : ℕ) (m : Option ℕ) (a s : List Surface) (k : Around) → IsSingleBy (none_whole a k) (counted_if b p n m a s k)
by_count true p n m a s k = refl
by_count false p n m a s k = tt

pub by_filled : (w : Looking) (c : Constraint) (a s : List Surface) (k : Around) → is_single (filled w c a s k) ≡ none_whole a k
by_filled None c a s k = refl
by_filled (Some w) c a s k = refl

by_carried : (q : Result constraint.State PatternKind) (w : Looking) (a s : List Surface) (k : Around) → IsSingleBy (none_whole a k) (carried q w a s k)
by_carried (Ok (constraint.done c)) w a s k = by_filled w c a s k
by_carried (Ok t) w a s k = refl
by_carried (Err j) w a s k = tt

module _ (may : Surface → Option ℕ → Bool) where
  by_part : (x : LexKind) (p : Surface) (a s : List Surface) (k : Around) → IsSingleBy (if bars_in x k then false else none_whole a k) (machine.step_part may x p a s k)
  by_part Question p a s k = by_count (may p (Some 1)) p 0 (Some 1) a s k
  by_part Star p a s k = by_count (may p None) p 0 None a s k
  by_part Plus p a s k = by_count (may p None) p 1 None a s k
  by_part (Range n m) p a s k = by_count (may p m) p n m a s k
  by_part x p a s k = by_turned x a (s ++ p ∷ []) k

  pub by_step : (q : State) (x : LexKind) → IsSingleBy (if bars q x then false else is_single q) (step may q x)
  by_step (atom a s k) x = by_atom x a s k
  by_step (name a s k) x = by_name x a s k
  by_step (look w a s k) x = by_look x w a s k
  by_step (inside w c a s k) x = by_carried (constraint.step c x) w a s k
  by_step (looked w c a s k) x = by_looked x w c a s k
  by_step (part p a s k) x = by_part x p a s k
  by_step (counted p n m a s k) x = by_counted x p n m a s k
  by_step (turned a s k) x = by_turned x a s k
  by_step (listed a k) x = by_listed x a k
  by_step (whole p k) x = by_whole x p (p ∷ []) k

-- where steps may begin, no choice has come
pub joins_single : (q : State) (p : Surface) → joins q ≡ Some p → is_single q ≡ true
joins_single (part p [] s top) r e = refl
joins_single (counted p n m [] s top) r e = refl
joins_single (turned [] s top) r e = refl
joins_single q r e = absurd (cc)
