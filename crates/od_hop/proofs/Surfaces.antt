-- What is known of the states of the machine of surfaces: the brackets that they have opened, and which lexemes they refuse.
use Rattle.std.proofs.Common.{◌≡◌, ℕ, suc, ◌+◌, Bool, true, false, if◌then◌else◌, List, [], ◌∷◌, ◌++◌, Option, Some, None, Result, Ok, Err, refl, arith}
use Rattle.od_pattern.specs.declared.pattern.Constraint.{Constraint}
use Rattle.od_pattern.specs.declared.pattern.Surface.{Surface}
use Rattle.od_language.specs.declared.pattern_fault.PatternKind.{PatternKind}
use Rattle.od_language.specs.declared.pattern_fault.PatternKind.TheVariants as kind
use Rattle.od_language.specs.declared.lexeme.LexKind.{LexKind}
use Rattle.od_language.specs.declared.lexeme.LexKind.TheVariants.{Word, Quoted, Regex, Range, NameOpen, AheadIs, AheadNot, BehindIs, BehindNot, SquareOpen, RoundOpen, RoundClose, Or, At, Along, Against, AnyAlong, AnyAgainst, Question, Star, Plus, Caret, Dollar}
use Rattle.od_language.specs.Depth.{depth_behind}
use Rattle.od_language.specs.Identifier.{is_identifier}
use Rattle.od_language.specs.ConstraintMachine as constraint
use Rattle.od_path.proofs.Groups.{Stays, stays}
use Rattle.od_surface.proofs.Balanced.{opens, Deep, deep}
use Rattle.od_surface.specs.Reading.{single_if, single, end_of}
use Rattle.od_surface.specs.declared.lexemes.Places.{Places}
use Rattle.od_syntax.specs.HopMachine.{bars_in, bars}
use Rattle.od_syntax.specs.Sizes.{may_repeat, may_always}
use Rattle.od_syntax.specs.SurfaceMachine.{Looking, Around, top, round, State, atom, name, look, inside, looked, part, counted, turned, listed, whole, in_order, any_of, repeat, filled, carried, named_if, step, ended, joins, repeat_rule}
use Rattle.od_syntax.specs.SurfaceMachine as machine
use Rattle.od_syntax.specs.Told.{in_constraint, is_arrow}

-- how many brackets a state has opened
abbrev pub around_opens : Around → ℕ
around_opens top = 0
around_opens (round o a s k) = suc (around_opens k)

abbrev pub looking_opens : Looking → Around → ℕ
looking_opens None k = around_opens k
looking_opens (Some w) k = suc (around_opens k)

abbrev pub surface_opens : State → ℕ
surface_opens (atom a s k) = around_opens k
surface_opens (name a s k) = around_opens k
surface_opens (look w a s k) = suc (around_opens k)
surface_opens (inside w c a s k) = opens c + looking_opens w k
surface_opens (looked w c a s k) = suc (around_opens k)
surface_opens (part p a s k) = around_opens k
surface_opens (counted p n m a s k) = around_opens k
surface_opens (turned a s k) = around_opens k
surface_opens (listed a k) = around_opens k
surface_opens (whole p k) = around_opens k

-- it stands in a constraint
abbrev pub is_inside : State → Bool
is_inside (inside w c a s k) = true
is_inside q = false

-- a state that the machine goes on to by itself
abbrev pub IsReached : State → Type 0
IsReached (listed a k) = ⊥
IsReached (whole p k) = ⊥
IsReached q = Unit {0}

-- ## Behind a lexeme that is taken

-- as many brackets are open, and a constraint is open or not, as the next state says
abbrev pub Fits : Bool → ℕ → LexKind → Result State PatternKind → Type 0
Fits b at x (Ok t) = (depth_behind at x ≡ surface_opens t) × (in_constraint b x ≡ is_inside t) × IsReached t
Fits b at x (Err k) = Unit {0}

fits_atom : (x : LexKind) (a s : List Surface) (k : Around) → Fits false (around_opens k) x (machine.step_atom x a s k)
fits_atom SquareOpen a s k = (omega arith, refl, tt)
fits_atom (Word t) a s k = (refl, refl, tt)
fits_atom (Quoted t) a s k = (refl, refl, tt)
fits_atom (Regex t) a s k = (refl, refl, tt)
fits_atom At a s k = (refl, refl, tt)
fits_atom RoundOpen a s k = (refl, refl, tt)
fits_atom (NameOpen n) a s k = (refl, refl, tt)
fits_atom AheadIs a s k = (refl, refl, tt)
fits_atom AheadNot a s k = (refl, refl, tt)
fits_atom BehindIs a s k = (refl, refl, tt)
fits_atom BehindNot a s k = (refl, refl, tt)
fits_atom Caret a s k = (refl, refl, tt)
fits_atom Dollar a s k = (refl, refl, tt)
fits_atom x a s k = tt

fits_named : (b : Bool) (t : List ℕ) (a s : List Surface) (k : Around) → Fits false (around_opens k) (Word t) (named_if b t a s k)
fits_named true t a s k = (refl, refl, tt)
fits_named false t a s k = tt

fits_name : (x : LexKind) (a s : List Surface) (k : Around) → Fits false (around_opens k) x (machine.step_name x a s k)
fits_name (Word t) a s k = fits_named (is_identifier t) t a s k
fits_name x a s k = tt

fits_look : (x : LexKind) (w : Bool × Bool) (a s : List Surface) (k : Around) → Fits false (suc (around_opens k)) x (machine.step_look x w a s k)
fits_look SquareOpen w a s k = (omega arith, refl, tt)
fits_look x w a s k = tt

fits_looked : (x : LexKind) (w : Bool × Bool) (c : Constraint) (a s : List Surface) (k : Around) → Fits false (suc (around_opens k)) x (machine.step_looked x w c a s k)
fits_looked RoundClose w c a s k = (omega arith, refl, tt)
fits_looked x w c a s k = tt

fits_closed : (x : LexKind) (o : Option (List ℕ)) (p : Surface) (a s : List Surface) (k : Around) → Fits false (suc (around_opens k)) x (machine.step_closed x o p a s k)
fits_closed RoundClose o p a s k = (omega arith, refl, tt)
fits_closed x o p a s k = tt

fits_whole : (x : LexKind) (p : Surface) (k : Around) → Fits false (around_opens k) x (machine.step_whole x p k)
fits_whole x p top = tt
fits_whole x p (round o a s k) = fits_closed x o p a s k

fits_listed : (x : LexKind) (a : List Surface) (k : Around) → Fits false (around_opens k) x (machine.step_listed x a k)
fits_listed Or a k = (refl, refl, tt)
fits_listed x a k = fits_whole x (any_of a) k

fits_turned : (x : LexKind) (a s : List Surface) (k : Around) → Fits false (around_opens k) x (machine.step_turned x a s k)
fits_turned SquareOpen a s k = (omega arith, refl, tt)
fits_turned (Word t) a s k = (refl, refl, tt)
fits_turned (Quoted t) a s k = (refl, refl, tt)
fits_turned (Regex t) a s k = (refl, refl, tt)
fits_turned At a s k = (refl, refl, tt)
fits_turned RoundOpen a s k = (refl, refl, tt)
fits_turned (NameOpen n) a s k = (refl, refl, tt)
fits_turned AheadIs a s k = (refl, refl, tt)
fits_turned AheadNot a s k = (refl, refl, tt)
fits_turned BehindIs a s k = (refl, refl, tt)
fits_turned BehindNot a s k = (refl, refl, tt)
fits_turned Caret a s k = (refl, refl, tt)
fits_turned Dollar a s k = (refl, refl, tt)
fits_turned x a s k = fits_listed x (a ++ in_order s ∷ []) k

fits_counted : (x : LexKind) (p : Surface) (n : ℕ) (m : Option ℕ) (a s : List Surface) (k : Around) → Fits false (around_opens k) x (machine.step_counted x p n m a s k)
fits_counted Question p n m a s k = (refl, refl, tt)
fits_counted x p n m a s k = fits_turned x a (s ++ repeat p n m false ∷ []) k

fits_part : (x : LexKind) (p : Surface) (a s : List Surface) (k : Around) → Fits false (around_opens k) x (machine.step_part may_always x p a s k)
fits_part Question p a s k = (refl, refl, tt)
fits_part Star p a s k = (refl, refl, tt)
fits_part Plus p a s k = (refl, refl, tt)
fits_part (Range n m) p a s k = (refl, refl, tt)
fits_part x p a s k = fits_turned x a (s ++ p ∷ []) k

fits_filled : (at : ℕ) (x : LexKind) (w : Looking) (c : Constraint) (a s : List Surface) (k : Around) → depth_behind at x ≡ 0 + looking_opens w k → in_constraint true x ≡ false →
    (depth_behind at x ≡ surface_opens (filled w c a s k)) × (in_constraint true x ≡ is_inside (filled w c a s k)) × IsReached (filled w c a s k)
fits_filled at x None c a s k h g = (omega (arith, h), g, tt)
fits_filled at x (Some w) c a s k h g = (omega (arith, h), g, tt)

fits_carried : (at : ℕ) (x : LexKind) (q : Result constraint.State PatternKind) (w : Looking) (a s : List Surface) (k : Around) → Deep (looking_opens w k) at x q → Stays x q →
    Fits true at x (carried q w a s k)
fits_carried at x (Ok (constraint.done c)) w a s k h g = fits_filled at x w c a s k h.0 g
fits_carried at x (Ok constraint.start) w a s k h g = (h.0, g, tt)
fits_carried at x (Ok constraint.first) w a s k h g = (h.0, g, tt)
fits_carried at x (Ok (constraint.operand n b o r)) w a s k h g = (h.0, g, tt)
fits_carried at x (Ok (constraint.named f n b o r)) w a s k h g = (h.0, g, tt)
fits_carried at x (Ok (constraint.equals f n b o r)) w a s k h g = (h.0, g, tt)
fits_carried at x (Ok (constraint.after c o r)) w a s k h g = (h.0, g, tt)
fits_carried at x (Err j) w a s k h g = tt

pub fits : (q : State) (x : LexKind) → Fits (is_inside q) (surface_opens q) x (step may_always q x)
fits (atom a s k) x = fits_atom x a s k
fits (name a s k) x = fits_name x a s k
fits (look w a s k) x = fits_look x w a s k
fits (inside w c a s k) x = fits_carried (opens c + looking_opens w k) x (constraint.step c x) w a s k (deep (looking_opens w k) c x) (stays c x)
fits (looked w c a s k) x = fits_looked x w c a s k
fits (part p a s k) x = fits_part x p a s k
fits (counted p n m a s k) x = fits_counted x p n m a s k
fits (turned a s k) x = fits_turned x a s k
fits (listed a k) x = fits_listed x a k
fits (whole p k) x = fits_whole x p k

-- ## Where the machine may end

-- what it does not take is not expected
abbrev pub Stops : Result State PatternKind → Type 0
Stops (Ok t) = Unit {0}
Stops (Err k) = k ≡ kind.Expected

stops_listed : (x : LexKind) (a : List Surface) → Stops (machine.step_listed x a top)
stops_listed Or a = tt
stops_listed x a = refl

stops_turned : (x : LexKind) (a s : List Surface) → Stops (machine.step_turned x a s top)
stops_turned SquareOpen a s = tt
stops_turned (Word t) a s = tt
stops_turned (Quoted t) a s = tt
stops_turned (Regex t) a s = tt
stops_turned At a s = tt
stops_turned RoundOpen a s = tt
stops_turned (NameOpen n) a s = tt
stops_turned AheadIs a s = tt
stops_turned AheadNot a s = tt
stops_turned BehindIs a s = tt
stops_turned BehindNot a s = tt
stops_turned Caret a s = tt
stops_turned Dollar a s = tt
stops_turned x a s = stops_listed x (a ++ in_order s ∷ [])

stops_counted : (x : LexKind) (p : Surface) (n : ℕ) (m : Option ℕ) (a s : List Surface) → Stops (machine.step_counted x p n m a s top)
stops_counted Question p n m a s = tt
stops_counted x p n m a s = stops_turned x a (s ++ repeat p n m false ∷ [])

stops_part : (x : LexKind) (p : Surface) (a s : List Surface) → Stops (machine.step_part may_always x p a s top)
stops_part Question p a s = tt
stops_part Star p a s = tt
stops_part Plus p a s = tt
stops_part (Range n m) p a s = tt
stops_part x p a s = stops_turned x a (s ++ p ∷ [])

-- what is known of a state, by the pattern that it may end with
abbrev pub Ending : State → Option Surface → Result State PatternKind → Type 0
Ending q None r = joins q ≡ None
Ending q (Some p) r = (is_inside q ≡ false) × Stops r

pub ending : (q : State) (x : LexKind) → Ending q (ended q) (step may_always q x)
ending (atom a s k) x = refl
ending (name a s k) x = refl
ending (look w a s k) x = refl
ending (inside w c a s k) x = refl
ending (looked w c a s k) x = refl
ending (part p a s top) x = (refl, stops_part x p a s)
ending (part p [] s (round o b t k)) x = refl
ending (part p (r ∷ a) s (round o b t k)) x = refl
ending (counted p n m a s top) x = (refl, stops_counted x p n m a s)
ending (counted p n m [] s (round o b t k)) x = refl
ending (counted p n m (r ∷ a) s (round o b t k)) x = refl
ending (turned a s top) x = (refl, stops_turned x a s)
ending (turned [] s (round o b t k)) x = refl
ending (turned (r ∷ a) s (round o b t k)) x = refl
ending (listed a top) x = (refl, stops_listed x a)
ending (listed a (round o b t k)) x = refl
ending (whole p top) x = (refl, refl)
ending (whole p (round o b t k)) x = refl

single_in : (a s : List Surface) (p : Surface) (k : Around) → single_if a (in_order (s ++ p ∷ [])) k ≡ joins (part p a s k)
single_in [] s p top = refl
single_in [] s p (round o b t k) = refl
single_in (r ∷ a) s p top = refl
single_in (r ∷ a) s p (round o b t k) = refl

single_turned : (a s : List Surface) (k : Around) → single_if a (in_order s) k ≡ joins (turned a s k)
single_turned [] s top = refl
single_turned [] s (round o b t k) = refl
single_turned (r ∷ a) s top = refl
single_turned (r ∷ a) s (round o b t k) = refl

single_counted : (p : Surface) (n : ℕ) (m : Option ℕ) (a s : List Surface) (k : Around) → single_if a (in_order (s ++ repeat p n m false ∷ [])) k ≡ joins (counted p n m a s k)
single_counted p n m [] s top = refl
single_counted p n m [] s (round o b t k) = refl
single_counted p n m (r ∷ a) s top = refl
single_counted p n m (r ∷ a) s (round o b t k) = refl

-- what is left by a state is what may be joined
pub single_joins : (q : State) → IsReached q → single q ≡ joins q
single_joins (atom a s k) h = refl
single_joins (name a s k) h = refl
single_joins (look w a s k) h = refl
single_joins (inside w c a s k) h = refl
single_joins (looked w c a s k) h = refl
single_joins (part p a s k) h = single_in a s p k
single_joins (counted p n m a s k) h = single_counted p n m a s k
single_joins (turned a s k) h = single_turned a s k
single_joins (listed a k) h = absurd h
single_joins (whole p k) h = absurd h

-- ## Lexemes that no state takes outside constraints

arrow_closed : (x : LexKind) → is_arrow x ≡ true → (o : Option (List ℕ)) (p : Surface) (a s : List Surface) (k : Around) → machine.step_closed x o p a s k ≡ Err kind.Expected
arrow_closed RoundClose e o p a s k = absurd (cc)
arrow_closed x e o p a s k = refl

arrow_whole : (x : LexKind) → is_arrow x ≡ true → (p : Surface) (k : Around) → machine.step_whole x p k ≡ Err kind.Expected
arrow_whole x e p top = refl
arrow_whole x e p (round o a s k) = arrow_closed x e o p a s k

arrow_listed : (x : LexKind) → is_arrow x ≡ true → (a : List Surface) (k : Around) → machine.step_listed x a k ≡ Err kind.Expected
arrow_listed Or e a k = absurd (cc)
arrow_listed x e a k = arrow_whole x e (any_of a) k

arrow_turned : (x : LexKind) → is_arrow x ≡ true → (a s : List Surface) (k : Around) → machine.step_turned x a s k ≡ Err kind.Expected
arrow_turned Along e a s k = arrow_listed Along e (a ++ in_order s ∷ []) k
arrow_turned Against e a s k = arrow_listed Against e (a ++ in_order s ∷ []) k
arrow_turned AnyAlong e a s k = arrow_listed AnyAlong e (a ++ in_order s ∷ []) k
arrow_turned AnyAgainst e a s k = arrow_listed AnyAgainst e (a ++ in_order s ∷ []) k
arrow_turned x e a s k = absurd (cc)

arrow_counted : (x : LexKind) → is_arrow x ≡ true → (p : Surface) (n : ℕ) (m : Option ℕ) (a s : List Surface) (k : Around) → machine.step_counted x p n m a s k ≡ Err kind.Expected
arrow_counted Question e p n m a s k = absurd (cc)
arrow_counted x e p n m a s k = arrow_turned x e a (s ++ repeat p n m false ∷ []) k

arrow_part : (x : LexKind) → is_arrow x ≡ true → (p : Surface) (a s : List Surface) (k : Around) → machine.step_part may_always x p a s k ≡ Err kind.Expected
arrow_part Along e p a s k = arrow_turned Along e a (s ++ p ∷ []) k
arrow_part Against e p a s k = arrow_turned Against e a (s ++ p ∷ []) k
arrow_part AnyAlong e p a s k = arrow_turned AnyAlong e a (s ++ p ∷ []) k
arrow_part AnyAgainst e p a s k = arrow_turned AnyAgainst e a (s ++ p ∷ []) k
arrow_part x e p a s k = absurd (cc)

arrow_begins : (x : LexKind) → is_arrow x ≡ true → (a s : List Surface) (k : Around) →
    (machine.step_atom x a s k ≡ Err kind.Expected) × (machine.step_name x a s k ≡ Err kind.Expected)
arrow_begins Along e a s k = (refl, refl)
arrow_begins Against e a s k = (refl, refl)
arrow_begins AnyAlong e a s k = (refl, refl)
arrow_begins AnyAgainst e a s k = (refl, refl)
arrow_begins x e a s k = absurd (cc)

arrow_looks : (x : LexKind) → is_arrow x ≡ true → (w : Bool × Bool) (c : Constraint) (a s : List Surface) (k : Around) →
    (machine.step_look x w a s k ≡ Err kind.Expected) × (machine.step_looked x w c a s k ≡ Err kind.Expected)
arrow_looks Along e w c a s k = (refl, refl)
arrow_looks Against e w c a s k = (refl, refl)
arrow_looks AnyAlong e w c a s k = (refl, refl)
arrow_looks AnyAgainst e w c a s k = (refl, refl)
arrow_looks x e w c a s k = absurd (cc)

arrow_look : (x : LexKind) → is_arrow x ≡ true → (w : Bool × Bool) (a s : List Surface) (k : Around) → machine.step_look x w a s k ≡ Err kind.Expected
arrow_look SquareOpen e w a s k = absurd (cc)
arrow_look x e w a s k = refl

-- an arrow
pub arrow_refused : (x : LexKind) → is_arrow x ≡ true → (q : State) → is_inside q ≡ false → step may_always q x ≡ Err kind.Expected
arrow_refused x e (atom a s k) h = (arrow_begins x e a s k).0
arrow_refused x e (name a s k) h = (arrow_begins x e a s k).1
arrow_refused x e (look w a s k) h = arrow_look x e w a s k
arrow_refused x e (inside w c a s k) h = absurd (cc)
arrow_refused x e (looked w c a s k) h = (arrow_looks x e w c a s k).1
arrow_refused x e (part p a s k) h = arrow_part x e p a s k
arrow_refused x e (counted p n m a s k) h = arrow_counted x e p n m a s k
arrow_refused x e (turned a s k) h = arrow_turned x e a s k
arrow_refused x e (listed a k) h = arrow_listed x e a k
arrow_refused x e (whole p k) h = arrow_whole x e p k

-- behind steps
abbrev pub in_one : State → LexKind → Result State PatternKind
in_one q x = if bars q x then Err kind.Expected else step may_always q x

-- a `|` outside brackets, behind steps
pub bar_refused : (q : State) → IsReached q → is_inside q ≡ false → surface_opens q ≡ 0 → in_one q Or ≡ Err kind.Expected
bar_refused (atom a s k) r h d = refl
bar_refused (name a s k) r h d = refl
bar_refused (look w a s k) r h d = refl
bar_refused (inside w c a s k) r h d = absurd (cc)
bar_refused (looked w c a s k) r h d = refl
bar_refused (part p a s top) r h d = refl
bar_refused (part p a s (round o b t k)) r h d = absurd (omega (arith, d))
bar_refused (counted p n m a s top) r h d = refl
bar_refused (counted p n m a s (round o b t k)) r h d = absurd (omega (arith, d))
bar_refused (turned a s top) r h d = refl
bar_refused (turned a s (round o b t k)) r h d = absurd (omega (arith, d))
bar_refused (listed a k) r h d = absurd r
bar_refused (whole p k) r h d = absurd r

-- a `|` inside brackets, and any other lexeme, is read behind steps as it is at the front
abbrev pub IsPlainBar : State → LexKind → Type 0
IsPlainBar q Or = (is_inside q ≡ false) → (surface_opens q ≡ 0) → ⊥
IsPlainBar q x = Unit {0}

bar_around : (k : Around) → ((false ≡ false) → (around_opens k ≡ 0) → ⊥) → bars_in Or k ≡ false
bar_around top h = absurd (h refl refl)
bar_around (round o a s k) h = refl

pub no_bar : (q : State) (x : LexKind) → IsPlainBar q x → bars q x ≡ false
no_bar (atom a s k) x h = refl
no_bar (name a s k) x h = refl
no_bar (look w a s k) x h = refl
no_bar (inside w c a s k) x h = refl
no_bar (looked w c a s k) x h = refl
no_bar (part p a s k) Or h = bar_around k h
no_bar (part p a s k) x h = refl
no_bar (counted p n m a s k) Or h = bar_around k h
no_bar (counted p n m a s k) x h = refl
no_bar (turned a s k) Or h = bar_around k h
no_bar (turned a s k) x h = refl
no_bar (listed a k) x h = refl
no_bar (whole p k) x h = refl

-- a quantifier alone breaks the rule of the body
pub arrow_repeats : (x : LexKind) → is_arrow x ≡ true → (q : State) → repeat_rule may_repeat q x ≡ None
arrow_repeats Along e (part p a s k) = refl
arrow_repeats Against e (part p a s k) = refl
arrow_repeats AnyAlong e (part p a s k) = refl
arrow_repeats AnyAgainst e (part p a s k) = refl
arrow_repeats x e (part p a s k) = absurd (cc)
arrow_repeats x e (atom a s k) = refl
arrow_repeats x e (name a s k) = refl
arrow_repeats x e (look w a s k) = refl
arrow_repeats x e (inside w c a s k) = refl
arrow_repeats x e (looked w c a s k) = refl
arrow_repeats x e (counted p n m a s k) = refl
arrow_repeats x e (turned a s k) = refl
arrow_repeats x e (listed a k) = refl
arrow_repeats x e (whole p k) = refl

pub end_zero : (places : Places) (q : State) → places.behind ≡ 0 → end_of places q ≡ 0
end_zero places (inside w c a s k) e = refl
end_zero places (atom a s k) e = e
end_zero places (name a s k) e = e
end_zero places (look w a s k) e = e
end_zero places (looked w c a s k) e = e
end_zero places (part p a s k) e = e
end_zero places (counted p n m a s k) e = e
end_zero places (turned a s k) e = e
end_zero places (listed a k) e = e
end_zero places (whole p k) e = e

pub end_outside : (places : Places) (q : State) → is_inside q ≡ false → end_of places q ≡ places.behind
end_outside places (inside w c a s k) e = absurd (cc)
end_outside places (atom a s k) e = refl
end_outside places (name a s k) e = refl
end_outside places (look w a s k) e = refl
end_outside places (looked w c a s k) e = refl
end_outside places (part p a s k) e = refl
end_outside places (counted p n m a s k) e = refl
end_outside places (turned a s k) e = refl
end_outside places (listed a k) e = refl
end_outside places (whole p k) e = refl
