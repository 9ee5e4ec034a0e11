-- A path inside the brackets of steps: the machine of steps goes as the machine of paths does.
use Rattle.std.proofs.Common.{◌≡◌, ℕ, suc, ◌+◌, ◌-◌, Bool, true, false, if◌then◌else◌, List, [], ◌∷◌, ◌++◌, drop, Option, Some, None, Result, Ok, Err, refl, sym, ◌∙◌, ap, subst, arith}
use Rattle.od_pattern.specs.declared.pattern.Field.{Field}
use Rattle.od_pattern.specs.declared.pattern.Constraint.{Constraint}
use Rattle.od_pattern.specs.declared.path.Path.{Path}
use Rattle.od_language.specs.declared.pattern_fault.PatternKind.{PatternKind}
use Rattle.od_language.specs.declared.pattern_fault.PatternKind.TheVariants as kind
use Rattle.od_language.specs.declared.lexeme.Lexeme.{Lexeme}
use Rattle.od_language.specs.declared.lexeme.LexKind.{LexKind}
use Rattle.od_language.specs.declared.lexeme.LexKind.TheVariants.{Word, Quoted, Regex, Range, SquareOpen, SquareClose, RoundOpen, RoundClose, And, Or, Not, Equal, Along, Against, AnyAlong, AnyAgainst, Question, Star, Plus}
use Rattle.od_language.specs.Alphabet.{plain, kinds}
use Rattle.od_language.specs.Depth.{depth_behind, broken_rule}
use Rattle.od_language.specs.Fields.{field_named}
use Rattle.od_language.specs.declared.pattern_fault.PatternFault.{PatternFault}
use Rattle.od_language.specs.declared.pattern_fault.PatternFault.TheVariants as fault
use Rattle.od_language.specs.Machine.{◌>>=◌, stopped, checked, either_way, GoesOn}
use Rattle.od_language.specs.ConstraintMachine.{Open, square, start, operand, named, equals, after, done, named_by}
use Rattle.od_language.specs.ConstraintMachine as constraint
use Rattle.od_syntax.specs.PathMachine.{Around, top, round, State, atom, label, inside, part, turned, listed, whole, in_order, any_of, step, carried, ended}
use Rattle.od_syntax.specs.PathMachine as machine
use Rattle.od_syntax.specs.StepsMachine.{group, group_start, closing, grouped}
use Rattle.od_syntax.specs.StepsMachine as steps
use Rattle.od_syntax.specs.Told.{Told, lexeme, steps_open, untold, told_of, told_from, told, in_constraint, leads_to_steps}
use Rattle.od_path.specs.Machine.{run}
use Rattle.od_path.specs.Steps.{steps_run, closed, closed_by}
use Rattle.od_path.proofs.Answers.{ended_there}
use Rattle.od_path.proofs.Within.{opens, deep, Deep, none_more}

-- how many brackets a state of paths has opened, and whether it stands in a constraint
abbrev pub around_opens : Around → ℕ
around_opens top = 0
around_opens (round a s k) = suc (around_opens k)

abbrev pub path_opens : State → ℕ
path_opens (atom a s k) = around_opens k
path_opens (label b a s k) = around_opens k
path_opens (inside c a s k) = opens c + around_opens k
path_opens (part p a s k) = around_opens k
path_opens (turned a s k) = around_opens k
path_opens (listed a k) = around_opens k
path_opens (whole p k) = around_opens k

abbrev pub is_inside : State → Bool
is_inside (inside c a s k) = true
is_inside q = false

-- behind a lexeme of a constraint the constraint is open, up to its end
abbrev pub Stays : LexKind → Result constraint.State PatternKind → Type 0
Stays x (Ok (done c)) = in_constraint true x ≡ false
Stays x (Ok t) = in_constraint true x ≡ true
Stays x (Err k) = Unit {0}

stays_named : (name : List ℕ) (n : ℕ) (a o : Option Constraint) (k : Open) (q : Option Field) → Stays (Word name) (named_by q n a o k)
stays_named name n a o k (Some f) = refl
stays_named name n a o k None = tt

stays_operand : (x : LexKind) (n : ℕ) (a o : Option Constraint) (k : Open) → Stays x (constraint.step_operand x n a o k)
stays_operand Not n a o k = refl
stays_operand RoundOpen n a o k = refl
stays_operand (Word name) n a o k = stays_named name n a o k (field_named name)
stays_operand x n a o k = tt

stays_first : (x : LexKind) → Stays x (constraint.step_first x)
stays_first SquareClose = refl
stays_first x = stays_operand x 0 None None square

stays_start : (x : LexKind) → Stays x (constraint.step_start x)
stays_start SquareOpen = refl
stays_start x = tt

stays_named_by : (x : LexKind) (f : Field) (n : ℕ) (a o : Option Constraint) (k : Open) → Stays x (constraint.step_named x f n a o k)
stays_named_by Equal f n a o k = refl
stays_named_by x f n a o k = tt

stays_equals : (x : LexKind) (f : Field) (n : ℕ) (a o : Option Constraint) (k : Open) → Stays x (constraint.step_equals x f n a o k)
stays_equals (Word t) f n a o k = refl
stays_equals (Quoted t) f n a o k = refl
stays_equals (Regex t) f n a o k = refl
stays_equals x f n a o k = tt

stays_square : (x : LexKind) (c : Constraint) (o : Option Constraint) → Stays x (constraint.step_after_square x c o)
stays_square SquareClose c o = refl
stays_square x c o = tt

stays_round : (x : LexKind) (c : Constraint) (o : Option Constraint) (n : ℕ) (a p : Option Constraint) (k : Open) → Stays x (constraint.step_after_round x c o n a p k)
stays_round RoundClose c o n a p k = refl
stays_round x c o n a p k = tt

stays_close : (x : LexKind) (c : Constraint) (o : Option Constraint) (k : Open) → Stays x (constraint.step_close x c o k)
stays_close x c o square = stays_square x c o
stays_close x c o (constraint.round n a p k) = stays_round x c o n a p k

stays_after : (x : LexKind) (c : Constraint) (o : Option Constraint) (k : Open) → Stays x (constraint.step_after x c o k)
stays_after And c o k = refl
stays_after Or c o k = refl
stays_after x c o k = stays_close x c o k

pub stays : (c : constraint.State) (x : LexKind) → Stays x (constraint.step c x)
stays start x = stays_start x
stays constraint.first x = stays_first x
stays (operand n a o k) x = stays_operand x n a o k
stays (named f n a o k) x = stays_named_by x f n a o k
stays (equals f n a o k) x = stays_equals x f n a o k
stays (after c o k) x = stays_after x c o k
stays (done c) x = tt

-- a lexeme that a path takes leaves as many brackets open, and a constraint open or not, as the state says
abbrev pub Fits : ℕ → Bool → ℕ → LexKind → Result State PatternKind → Type 0
Fits d b at x (Ok t) = (depth_behind at x ≡ path_opens t + d) × (in_constraint b x ≡ is_inside t)
Fits d b at x (Err k) = Unit {0}

fits_atom : (d : ℕ) (x : LexKind) (a s : List Path) (k : Around) → Fits d false (around_opens k + d) x (machine.step_atom x a s k)
fits_atom d Along a s k = (refl, refl)
fits_atom d Against a s k = (refl, refl)
fits_atom d AnyAlong a s k = (refl, refl)
fits_atom d AnyAgainst a s k = (refl, refl)
fits_atom d SquareOpen a s k = (omega arith, refl)
fits_atom d RoundOpen a s k = (omega arith, refl)
fits_atom d x a s k = tt

fits_label : (d : ℕ) (x : LexKind) (b : Bool) (a s : List Path) (k : Around) → Fits d false (around_opens k + d) x (machine.step_label x b a s k)
fits_label d (Word t) b a s k = (refl, refl)
fits_label d (Quoted t) b a s k = (refl, refl)
fits_label d (Regex t) b a s k = (refl, refl)
fits_label d x b a s k = tt

fits_closed : (d : ℕ) (x : LexKind) (p : Path) (a s : List Path) (k : Around) → Fits d false (suc (around_opens k) + d) x (machine.step_closed x p a s k)
fits_closed d RoundClose p a s k = (omega arith, refl)
fits_closed d x p a s k = tt

fits_whole : (d : ℕ) (x : LexKind) (p : Path) (k : Around) → Fits d false (around_opens k + d) x (machine.step_whole x p k)
fits_whole d x p top = tt
fits_whole d x p (round a s k) = fits_closed d x p a s k

fits_listed : (d : ℕ) (x : LexKind) (a : List Path) (k : Around) → Fits d false (around_opens k + d) x (machine.step_listed x a k)
fits_listed d Or a k = (refl, refl)
fits_listed d x a k = fits_whole d x (any_of a) k

fits_turned : (d : ℕ) (x : LexKind) (a s : List Path) (k : Around) → Fits d false (around_opens k + d) x (machine.step_turned x a s k)
fits_turned d Along a s k = (refl, refl)
fits_turned d Against a s k = (refl, refl)
fits_turned d AnyAlong a s k = (refl, refl)
fits_turned d AnyAgainst a s k = (refl, refl)
fits_turned d SquareOpen a s k = (omega arith, refl)
fits_turned d RoundOpen a s k = (omega arith, refl)
fits_turned d x a s k = fits_listed d x (a ++ in_order s ∷ []) k

fits_part : (d : ℕ) (x : LexKind) (p : Path) (a s : List Path) (k : Around) → Fits d false (around_opens k + d) x (machine.step_part x p a s k)
fits_part d Question p a s k = (refl, refl)
fits_part d Star p a s k = (refl, refl)
fits_part d Plus p a s k = (refl, refl)
fits_part d (Range n m) p a s k = (refl, refl)
fits_part d x p a s k = fits_turned d x a (s ++ p ∷ []) k

fits_carried : (d at : ℕ) (x : LexKind) (q : Result constraint.State PatternKind) (a s : List Path) (k : Around) → Deep (around_opens k + d) at x q → Stays x q →
    Fits d true at x (carried q a s k)
fits_carried d at x (Ok (done c)) a s k h g = (omega (arith, h), g)
fits_carried d at x (Ok start) a s k h g = (omega (arith, h), g)
fits_carried d at x (Ok constraint.first) a s k h g = (omega (arith, h), g)
fits_carried d at x (Ok (operand n b o r)) a s k h g = (omega (arith, h), g)
fits_carried d at x (Ok (named f n b o r)) a s k h g = (omega (arith, h), g)
fits_carried d at x (Ok (equals f n b o r)) a s k h g = (omega (arith, h), g)
fits_carried d at x (Ok (after c o r)) a s k h g = (omega (arith, h), g)
fits_carried d at x (Err j) a s k h g = tt

fits_inside : (d : ℕ) (x : LexKind) (c : constraint.State) (a s : List Path) (k : Around) → Fits d true (opens c + around_opens k + d) x (carried (constraint.step c x) a s k)
fits_inside d x c a s k =
    let same : opens c + (around_opens k + d) ≡ opens c + around_opens k + d = omega arith in
    fits_carried d (opens c + around_opens k + d) x (constraint.step c x) a s k
    (subst (λ (z : ℕ). Deep (around_opens k + d) z x (constraint.step c x)) same (deep (around_opens k + d) c x)) (stays c x)

pub fits : (d : ℕ) (q : State) (x : LexKind) → Fits d (is_inside q) (path_opens q + d) x (step q x)
fits d (atom a s k) x = fits_atom d x a s k
fits d (label b a s k) x = fits_label d x b a s k
fits d (inside c a s k) x = fits_inside d x c a s k
fits d (part p a s k) x = fits_part d x p a s k
fits d (turned a s k) x = fits_turned d x a s k
fits d (listed a k) x = fits_listed d x a k
fits d (whole p k) x = fits_whole d x p k

-- where a path may end, what it does not take is not expected
abbrev pub Stops : Result State PatternKind → Type 0
Stops (Ok t) = Unit {0}
Stops (Err k) = k ≡ kind.Expected

stops_listed : (x : LexKind) (a : List Path) → Stops (machine.step_listed x a top)
stops_listed Or a = tt
stops_listed x a = refl

stops_turned : (x : LexKind) (a s : List Path) → Stops (machine.step_turned x a s top)
stops_turned Along a s = tt
stops_turned Against a s = tt
stops_turned AnyAlong a s = tt
stops_turned AnyAgainst a s = tt
stops_turned SquareOpen a s = tt
stops_turned RoundOpen a s = tt
stops_turned x a s = stops_listed x (a ++ in_order s ∷ [])

stops_part : (x : LexKind) (p : Path) (a s : List Path) → Stops (machine.step_part x p a s top)
stops_part Question p a s = tt
stops_part Star p a s = tt
stops_part Plus p a s = tt
stops_part (Range n m) p a s = tt
stops_part x p a s = stops_turned x a (s ++ p ∷ [])

-- what is known of a state of paths, by the path that it may end with
abbrev pub Ending : State → Option Path → Result State PatternKind → Type 0
Ending q None r = Unit {0}
Ending q (Some p) r = (path_opens q ≡ 0) × (is_inside q ≡ false) × Stops r

pub ending : (q : State) (x : LexKind) → Ending q (ended q) (step q x)
ending (atom a s k) x = tt
ending (label b a s k) x = tt
ending (inside c a s k) x = tt
ending (part p a s top) x = (refl, refl, stops_part x p a s)
ending (part p a s (round b t k)) x = tt
ending (turned a s top) x = (refl, refl, stops_turned x a s)
ending (turned a s (round b t k)) x = tt
ending (listed a top) x = (refl, refl, stops_listed x a)
ending (listed a (round b t k)) x = tt
ending (whole p top) x = (refl, refl, refl)
ending (whole p (round b t k)) x = tt

-- what is said of the lexemes behind
abbrev Group : ℕ → List Path → List Lexeme → Type 0
Group d s l = (q : State) → steps_run (path_opens q + d) (group q s) (told_from (is_inside q) l) ≡ (run (path_opens q + d) q l >>= closed d s)

at_end : (d : ℕ) (s : List Path) (o : Option Path) → stopped None [] 0 kind.Expected ≡ (stopped o [] 0 kind.Expected >>= closed d s)
at_end d s None = refl
at_end d s (Some p) = refl

-- with the next state, where no rule is broken
taken : (d D : ℕ) (x : Lexeme) (l : List Lexeme) (s : List Path) (b : Bool) (t : State) (r : Option PatternKind) → D ≡ path_opens t + d → b ≡ is_inside t → Group d s l →
    checked r x.at (steps_run D (group t s) (told_from b l)) ≡ (checked r x.at (run D t l) >>= closed d s)
taken d D x l s b t None e h g =
    ap (λ z. steps_run z (group t s) (told_from b l)) e ∙ ap (λ z. steps_run (path_opens t + d) (group t s) (told_from z l)) h ∙ g t
    ∙ ap (λ z. run z t l >>= closed d s) (sym e)
taken d D x l s b t (Some k) e h g = refl

refused_none : (T : Told) (k : PatternKind) (s : List Path) → closing T None k s ≡ Err k
refused_none (lexeme RoundClose) k s = refl
refused_none T k s = refl

-- where the path may end: the bracket that closes, else a fault
closes : (d at : ℕ) (x : Lexeme) (l : List Lexeme) (s : List Path) (b : Bool) (T : Told) (k : PatternKind) (p : Path) → at ≡ d → b ≡ false → k ≡ kind.Expected →
    either_way (closing T (Some p) k s) (λ t. checked (broken_rule at (untold T)) x.at (steps_run (depth_behind at (untold T)) t (told_from (in_constraint b (untold T)) l))) (λ j. Err (x.at, j))
    ≡ closed_by (untold T) x.at d s p l
closes d at x l s b (lexeme RoundClose) k p e h i =
    ap (λ z. steps_run (z - 1) (steps.part p s) (told_from b l)) e ∙ ap (λ z. steps_run (d - 1) (steps.part p s) (told_from z l)) h
closes d at x l s b T k p e h i = ap (λ z. Err (x.at, z)) i

-- one lexeme
through : (d at : ℕ) (x : Lexeme) (l : List Lexeme) (s : List Path) (b : Bool) (T : Told) (q : State) (r : Result State PatternKind) (o : Option Path) →
    at ≡ path_opens q + d → b ≡ is_inside q → untold T ≡ x.kind → Fits d b at (untold T) r → Ending q o r → Group d s l →
    either_way (grouped r T o s) (λ t. checked (broken_rule at (untold T)) x.at (steps_run (depth_behind at (untold T)) t (told_from (in_constraint b (untold T)) l))) (λ j. Err (x.at, j))
    ≡ (either_way r (λ t. checked (broken_rule at (untold T)) x.at (run (depth_behind at (untold T)) t l)) (λ j. stopped o (x ∷ l) x.at j) >>= closed d s)
through d at x l s b T q (Ok t) o e h i f n g = taken d (depth_behind at (untold T)) x l s (in_constraint b (untold T)) t (broken_rule at (untold T)) f.0 f.1 g
through d at x l s b T q (Err k) None e h i f n g =
    ap (λ z. either_way z (λ t. checked (broken_rule at (untold T)) x.at (steps_run (depth_behind at (untold T)) t (told_from (in_constraint b (untold T)) l))) (λ j. Err (x.at, j))) (refused_none T k s)
through d at x l s b T q (Err k) (Some p) e h i f n g =
    let same : at ≡ d = let z = n.0 in omega (arith, e, z) in
    closes d at x l s b T k p same (h ∙ n.1) n.2 ∙ ap (λ z. closed_by z x.at d s p l) i

one : (d : ℕ) (x : Lexeme) (l : List Lexeme) (s : List Path) (q : State) (T : Told) → untold T ≡ x.kind → Group d s l →
    steps_run (path_opens q + d) (group q s) ((record { at = x.at; told = T }) ∷ told_from (in_constraint (is_inside q) x.kind) l) ≡ (run (path_opens q + d) q (x ∷ l) >>= closed d s)
one d x l s q T e g =
    let at : ℕ = path_opens q + d in
    ap (λ (y : LexKind). either_way (grouped (step q (untold T)) T (ended q) s) (λ t. checked (broken_rule at (untold T)) x.at (steps_run (depth_behind at (untold T)) t (told_from (in_constraint (is_inside q) y) l))) (λ j. Err (x.at, j))) (sym e)
    ∙ through d at x l s (is_inside q) T q (step q (untold T)) (ended q) refl refl e (fits d q (untold T)) (ending q (untold T)) g
    ∙ ap (λ (y : LexKind). either_way (step q y) (λ t. checked (broken_rule at y) x.at (run (depth_behind at y) t l)) (λ j. stopped (ended q) (x ∷ l) x.at j) >>= closed d s) e

untold_if : (b : Bool) → untold (if b then steps_open else lexeme RoundOpen) ≡ RoundOpen
untold_if true = refl
untold_if false = refl

-- a lexeme that is told apart is the one that stands there
pub untold_told : (b : Bool) (y : LexKind) (more : List LexKind) → untold (told_of b y more) ≡ y
untold_told false RoundOpen more = untold_if (leads_to_steps more)
untold_told b y more = refl

-- inside brackets of steps
pub group_goes : (d : ℕ) (s : List Path) (l : List Lexeme) → Group d s l
group_goes d s [] q = at_end d s (ended q)
group_goes d s (x ∷ l) q = one d x l s q (told_of (is_inside q) x.kind (kinds plain l)) (untold_told (is_inside q) x.kind (kinds plain l)) (group_goes d s l)

from_start : (d : ℕ) (s : List Path) (here : List Lexeme) → steps_run d (group group_start s) (told here) ≡ (run d (atom [] [] top) here >>= closed d s)
from_start d s here =
    subst (λ (z : ℕ). steps_run z (group group_start s) (told here) ≡ (run z (atom [] [] top) here >>= closed d s)) (none_more d) (group_goes d s here (atom [] [] top))

module _ {Y : Type 0} (path_of : Y → Path) (to_of : Y → ℕ) where
  -- a path that is read in brackets
  pub inside_goes : (q : Result Y PatternFault) (d : ℕ) (s : List Path) (here ls : List Lexeme) → GoesOn q (run d (atom [] [] top) here) (λ x. run d (whole (path_of x) top) (drop (to_of x) ls)) →
      GoesOn q (steps_run d (group group_start s) (told here)) (λ x. closed d s (path_of x, drop (to_of x) ls))
  inside_goes (Ok x) d s here ls h = from_start d s here ∙ ap (λ z. z >>= closed d s) (h ∙ ended_there d (path_of x) (drop (to_of x) ls))
  inside_goes (Err fault.NoMemory) d s here ls h = tt
  inside_goes (Err (fault.Bad at k)) d s here ls h = from_start d s here ∙ ap (λ z. z >>= closed d s) h
