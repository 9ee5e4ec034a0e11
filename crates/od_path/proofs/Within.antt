-- A constraint inside a path: the machine of paths goes as the machine of constraints does.
use Rattle.std.proofs.Common.{◌≡◌, ℕ, suc, ◌+◌, List, [], ◌∷◌, Option, Some, None, Result, Ok, Err, refl, sym, ◌∙◌, ap, subst, arith}
use Rattle.od_pattern.specs.declared.pattern.Field.{Field}
use Rattle.od_pattern.specs.declared.pattern.Constraint.{Constraint}
use Rattle.od_pattern.specs.declared.path.Path.{Path}
use Rattle.od_pattern.specs.declared.path.Path.TheVariants as path
use Rattle.od_language.specs.declared.pattern_fault.PatternKind.{PatternKind}
use Rattle.od_language.specs.declared.pattern_fault.PatternFault.{PatternFault}
use Rattle.od_language.specs.declared.pattern_fault.PatternFault.TheVariants as fault
use Rattle.od_language.specs.declared.lexeme.Lexeme.{Lexeme}
use Rattle.od_language.specs.declared.lexeme.LexKind.{LexKind}
use Rattle.od_language.specs.declared.lexeme.LexKind.TheVariants.{Word, Quoted, Regex, SquareOpen, SquareClose, RoundOpen, RoundClose, And, Or, Not, Equal}
use Rattle.od_language.specs.Fields.{field_named}
use Rattle.od_language.specs.Depth.{depth_behind, broken_rule}
use Rattle.od_language.specs.Machine.{◌>>=◌, Outcome, stopped, checked, either_way, GoesOn}
use Rattle.od_language.specs.ConstraintMachine.{Open, square, round, State, start, operand, named, equals, after, done, step, named_by, NotDone}
use Rattle.od_language.specs.ConstraintMachine as constraint
use Rattle.od_lex.specs.Machine.{Reading, marked, unbroken}
use Rattle.od_lex.specs.Machine as lexed
use Rattle.od_syntax.specs.PathMachine as machine
use Rattle.od_path.specs.Machine.{run}

-- how many brackets a state has opened
abbrev pub opens_in : Open → ℕ
opens_in square = 1
opens_in (round n a o k) = suc (opens_in k)

abbrev pub opens : State → ℕ
opens start = 0
opens constraint.first = 1
opens (operand n a o k) = opens_in k
opens (named f n a o k) = opens_in k
opens (equals f n a o k) = opens_in k
opens (after c o k) = opens_in k
opens (done c) = 0

-- the depth behind a lexeme that is taken
abbrev pub Deep : ℕ → ℕ → LexKind → Result State PatternKind → Type 0
Deep d at x (Ok t) = depth_behind at x ≡ opens t + d
Deep d at x (Err k) = Unit {0}

deep_named : (d : ℕ) (name : List ℕ) (n : ℕ) (a o : Option Constraint) (k : Open) (q : Option Field) → Deep d (opens_in k + d) (Word name) (named_by q n a o k)
deep_named d name n a o k (Some f) = refl
deep_named d name n a o k None = tt

deep_operand : (d : ℕ) (x : LexKind) (n : ℕ) (a o : Option Constraint) (k : Open) → Deep d (opens_in k + d) x (constraint.step_operand x n a o k)
deep_operand d Not n a o k = refl
deep_operand d RoundOpen n a o k = omega arith
deep_operand d (Word name) n a o k = deep_named d name n a o k (field_named name)
deep_operand d x n a o k = tt

deep_first : (d : ℕ) (x : LexKind) → Deep d (1 + d) x (constraint.step_first x)
deep_first d SquareClose = omega arith
deep_first d x = deep_operand d x 0 None None square

deep_start : (d : ℕ) (x : LexKind) → Deep d (0 + d) x (constraint.step_start x)
deep_start d SquareOpen = omega arith
deep_start d x = tt

deep_named_by : (d : ℕ) (x : LexKind) (f : Field) (n : ℕ) (a o : Option Constraint) (k : Open) → Deep d (opens_in k + d) x (constraint.step_named x f n a o k)
deep_named_by d Equal f n a o k = refl
deep_named_by d x f n a o k = tt

deep_equals : (d : ℕ) (x : LexKind) (f : Field) (n : ℕ) (a o : Option Constraint) (k : Open) → Deep d (opens_in k + d) x (constraint.step_equals x f n a o k)
deep_equals d (Word t) f n a o k = refl
deep_equals d (Quoted t) f n a o k = refl
deep_equals d (Regex t) f n a o k = refl
deep_equals d x f n a o k = tt

deep_square : (d : ℕ) (x : LexKind) (c : Constraint) (o : Option Constraint) → Deep d (1 + d) x (constraint.step_after_square x c o)
deep_square d SquareClose c o = omega arith
deep_square d x c o = tt

deep_round : (d : ℕ) (x : LexKind) (c : Constraint) (o : Option Constraint) (n : ℕ) (a p : Option Constraint) (k : Open) → Deep d (suc (opens_in k) + d) x (constraint.step_after_round x c o n a p k)
deep_round d RoundClose c o n a p k = omega arith
deep_round d x c o n a p k = tt

deep_close : (d : ℕ) (x : LexKind) (c : Constraint) (o : Option Constraint) (k : Open) → Deep d (opens_in k + d) x (constraint.step_close x c o k)
deep_close d x c o square = deep_square d x c o
deep_close d x c o (round n a p k) = deep_round d x c o n a p k

deep_after : (d : ℕ) (x : LexKind) (c : Constraint) (o : Option Constraint) (k : Open) → Deep d (opens_in k + d) x (constraint.step_after x c o k)
deep_after d And c o k = refl
deep_after d Or c o k = refl
deep_after d x c o k = deep_close d x c o k

-- how many brackets are open behind a lexeme of a constraint
pub deep : (d : ℕ) (s : State) (x : LexKind) → Deep d (opens s + d) x (step s x)
deep d start x = deep_start d x
deep d constraint.first x = deep_first d x
deep d (operand n a o k) x = deep_operand d x n a o k
deep d (named f n a o k) x = deep_named_by d x f n a o k
deep d (equals f n a o k) x = deep_equals d x f n a o k
deep d (after c o k) x = deep_after d x c o k
deep d (done c) x = tt

-- behind a constraint
abbrev pub filtered : ℕ → List Path → List Path → machine.Around → Constraint × List Lexeme → Outcome Lexeme Path
filtered d a s k x = run d (machine.part (path.Filter x.0) a s k) x.1

pub none_more : (d : ℕ) → 0 + d ≡ d
none_more d = omega arith

through_done : (d at : ℕ) (x : Lexeme) (c : Constraint) (l : List Lexeme) (a s : List Path) (k : machine.Around) (r : Option PatternKind) → at ≡ d →
    checked r x.at (run at (machine.part (path.Filter c) a s k) l) ≡ ((unbroken x.at r >>= λ _. lexed.run at (done c) l) >>= filtered d a s k)
through_done d at x c l a s k None e = ap (λ z. run z (machine.part (path.Filter c) a s k) l) e
through_done d at x c l a s k (Some j) e = refl

through_open : (d at deep : ℕ) (x : Lexeme) (f : ℕ → Outcome Lexeme Path) (g : ℕ → Reading) (h : Constraint × List Lexeme → Outcome Lexeme Path) (r : Option PatternKind) → at ≡ deep → f deep ≡ (g deep >>= h) →
    checked r x.at (f at) ≡ ((unbroken x.at r >>= λ _. g at) >>= h)
through_open d at deep x f g h None e i = ap f e ∙ i ∙ ap (λ z. g z >>= h) (sym e)
through_open d at deep x f g h (Some j) e i = refl

-- what is said of the lexemes behind
abbrev Within : ℕ → List Path → List Path → machine.Around → List Lexeme → Type 0
Within d a s k l = (t : State) → NotDone t → run (opens t + d) (machine.inside t a s k) l ≡ (lexed.run (opens t + d) t l >>= filtered d a s k)

through : (d at : ℕ) (x : Lexeme) (l : List Lexeme) (a s : List Path) (k : machine.Around) (q : Result State PatternKind) → Deep d at x.kind q → Within d a s k l →
    either_way (machine.carried q a s k) (λ t. checked (broken_rule at x.kind) x.at (run (depth_behind at x.kind) t l)) (λ j. stopped None (x ∷ l) x.at j)
    ≡ ((marked x.at q >>= λ t. unbroken x.at (broken_rule at x.kind) >>= λ _. lexed.run (depth_behind at x.kind) t l) >>= filtered d a s k)
through d at x l a s k (Err e) h w = refl
through d at x l a s k (Ok (done c)) h w = through_done d (depth_behind at x.kind) x c l a s k (broken_rule at x.kind) (h ∙ none_more d)
through d at x l a s k (Ok t) h w =
    through_open d (depth_behind at x.kind) (opens t + d) x (λ z. run z (machine.inside t a s k) l) (λ z. lexed.run z t l) (filtered d a s k) (broken_rule at x.kind) h (w t tt)

-- the machine of paths inside a constraint
pub within : (d : ℕ) (a s : List Path) (k : machine.Around) (l : List Lexeme) → Within d a s k l
within d a s k l (done c) w = absurd w
within d a s k [] t w = refl
within d a s k (x ∷ l) t w = through d (opens t + d) x l a s k (step t x.kind) (deep d t x.kind) (within d a s k l)

open_square : (d : ℕ) (x : Lexeme) (l : List Lexeme) (a s : List Path) (k : machine.Around) (y : LexKind) → y ≡ SquareOpen → x.kind ≡ y →
    run d (machine.atom a s k) (x ∷ l) ≡ run d (machine.inside start a s k) (x ∷ l)
open_square d x l a s k y e h =
    ap (λ z. either_way (machine.step_atom z a s k) (λ t. checked (broken_rule d z) x.at (run (depth_behind d z) t l)) (λ j. stopped None (x ∷ l) x.at j)) (h ∙ e)
    ∙ sym (ap (λ z. either_way (machine.carried (constraint.step_start z) a s k) (λ t. checked (broken_rule d z) x.at (run (depth_behind d z) t l)) (λ j. stopped None (x ∷ l) x.at j)) (h ∙ e))

to_inside : (d : ℕ) (x : Lexeme) (l here : List Lexeme) (a s : List Path) (k : machine.Around) → here ≡ x ∷ l → x.kind ≡ SquareOpen →
    run d (machine.atom a s k) here ≡ (lexed.run d start here >>= filtered d a s k)
to_inside d x l here a s k e h =
    ap (run d (machine.atom a s k)) e ∙ open_square d x l a s k SquareOpen refl h ∙ sym (ap (run d (machine.inside start a s k)) e)
    ∙ subst (λ (z : ℕ). run z (machine.inside start a s k) here ≡ (lexed.run z start here >>= filtered d a s k)) (none_more d) (within d a s k here start tt)

pub filter_read : (d : ℕ) (x : Lexeme) (l here rest : List Lexeme) (c : Constraint) (a s : List Path) (k : machine.Around) → here ≡ x ∷ l → x.kind ≡ SquareOpen →
    lexed.run d start here ≡ Ok (c, rest) → run d (machine.atom a s k) here ≡ run d (machine.part (path.Filter c) a s k) rest
filter_read d x l here rest c a s k e h g = to_inside d x l here a s k e h ∙ ap (λ z. z >>= filtered d a s k) g

abbrev no_path : {X : Type 0} → PatternFault → Result X PatternFault
no_path f = Err f

-- what stands for a path fails as the constraint does
pub filter_fails : {X : Type 0} → (f : PatternFault) (d : ℕ) (x : Lexeme) (l here : List Lexeme) (a s : List Path) (k : machine.Around) (on : Constraint × ℕ → Reading) (go : X → Outcome Lexeme Path) → here ≡ x ∷ l → x.kind ≡ SquareOpen →
    GoesOn (no_path {X = Constraint × ℕ} f) (lexed.run d start here) on → GoesOn (no_path {X = X} f) (run d (machine.atom a s k) here) go
filter_fails fault.NoMemory d x l here a s k on go e h g = tt
filter_fails (fault.Bad at j) d x l here a s k on go e h g = to_inside d x l here a s k e h ∙ ap (λ z. z >>= filtered d a s k) g
