-- Steps that the parser takes.
use Rattle.std.proofs.Common.{◌≡◌, ℕ, zero, suc, ◌+◌, ◌-◌, ◌<◌, List, [], ◌∷◌, length, take, get_or, add-one, Option, Some, None, Result, Ok, Err, refl, sym, ◌∙◌, ap, arith}
use Rattle.std.proofs.Common.{lt-ltb, Bool, if◌then◌else◌}
use Rattle.od_language.specs.declared.lexeme.Lexeme.{Lexeme}
use Rattle.od_language.specs.declared.lexeme.LexKind.{LexKind}
use Rattle.od_language.specs.declared.lexeme.LexKind.TheVariants.{RoundOpen, SquareOpen, SquareClose}
use Rattle.od_language.specs.declared.pattern_fault.PatternKind.TheVariants as kind
use Rattle.od_pattern.specs.declared.pattern.Constraint.{Constraint}
use Rattle.od_pattern.specs.declared.pattern.Constraint.TheVariants as constraint
use Rattle.od_language.specs.Depth.{depth_behind, broken_rule, too_deep, depth_after, depth_before}
use Rattle.od_language.specs.Alphabet.{plain, kinds}
use Rattle.od_language.specs.declared.limits.TheConstants.{OPEN_BRACKETS}
use Rattle.od_language.specs.Machine.{◌>>=◌, GoesOn}
use Rattle.od_language.specs.declared.pattern_fault.PatternFault.{PatternFault}
use Rattle.od_language.specs.declared.pattern_fault.PatternFault.TheVariants as fault
use Rattle.od_language.specs.ConstraintMachine.{step_first, negated, both, Open, square, round, State, operand, after, start, step_operand, step_start}
use Rattle.od_lex.specs.Machine.{Reading, run, marked, unbroken}
use Rattle.od_language.specs.ConstraintMachine as machine

pub negated_next : (n k : ℕ) (t u : Constraint) → k < n → u ≡ constraint.Not t → negated (n - (k + 1)) u ≡ negated (n - k) t
negated_next n k t u h e = let s : n - k ≡ suc (n - (k + 1)) = omega arith in rw (s, e) refl

within : (d : ℕ) → d < OPEN_BRACKETS → too_deep d ≡ None
within d h = ap (λ (b : Bool). if b then None else Some kind.TooDeep) (lt-ltb d OPEN_BRACKETS h)

-- into round brackets
pub round_in : (d n : ℕ) (a o : Option Constraint) (k : Open) (l m : List Lexeme) (x : Lexeme) → l ≡ x ∷ m → x.kind ≡ RoundOpen → d < OPEN_BRACKETS →
    run d (operand n a o k) l ≡ run (d + 1) (operand 0 None None (round n a o k)) m
round_in d n a o k l m x e h b =
    ap (run d (operand n a o k)) e
    ∙ ap (λ y. marked x.at (step_operand y n a o k) >>= λ t. unbroken x.at (broken_rule d y) >>= λ _. run (depth_behind d y) t m) h
    ∙ ap (λ q. unbroken x.at q >>= λ _. run (suc d) (operand 0 None None (round n a o k)) m) (within d b)
    ∙ ap (λ z. run z (operand 0 None None (round n a o k)) m) (omega arith)

pub square_in : (d : ℕ) (l m : List Lexeme) (x : Lexeme) → l ≡ x ∷ m → x.kind ≡ SquareOpen → d < OPEN_BRACKETS →
    run d start l ≡ run (d + 1) machine.first m
square_in d l m x e h b =
    ap (run d start) e
    ∙ ap (λ y. marked x.at (step_start y) >>= λ t. unbroken x.at (broken_rule d y) >>= λ _. run (depth_behind d y) t m) h
    ∙ ap (λ q. unbroken x.at q >>= λ _. run (suc d) machine.first m) (within d b)
    ∙ ap (λ z. run z machine.first m) (omega arith)

pub round_out : (d : ℕ) (s : State) (l : List Lexeme) → run (d + 1 - 1) s l ≡ run d s l
round_out d s l = ap (λ z. run z s l) (omega arith)

not_close : (y : LexKind) → (y ≡ SquareClose → ⊥) → step_first y ≡ step_operand y 0 None None square
not_close SquareClose h = absurd (h refl)
not_close y h = refl

-- from `[` an operand begins as anywhere
pub first_in : (d : ℕ) (l m : List Lexeme) (x : Lexeme) → l ≡ x ∷ m → (x.kind ≡ SquareClose → ⊥) → run d machine.first l ≡ run d (operand 0 None None square) l
first_in d l m x e h =
    ap (run d machine.first) e
    ∙ ap (λ q. marked x.at q >>= λ t. unbroken x.at (broken_rule d x.kind) >>= λ _. run (depth_behind d x.kind) t m) (not_close x.kind h)
    ∙ sym (ap (run d (operand 0 None None square)) e)

pub leads_on : {X : Type 0} → (q : Result X PatternFault) (r s : Reading) (f : X → Reading) → r ≡ s → GoesOn q s f → GoesOn q r f
leads_on (Ok x) r s f h k = h ∙ k
leads_on (Err fault.NoMemory) r s f h k = tt
leads_on (Err (fault.Bad at kind)) r s f h k = h ∙ k

depth_next : (d i : ℕ) (xs : List Lexeme) (x : Lexeme) → i < length xs → x ≡ get_or xs i x → depth_after d (kinds plain (take (suc i) xs)) ≡ depth_behind (depth_after d (kinds plain (take i xs))) x.kind
depth_next d i [] x h e = absurd (omega arith)
depth_next d zero (y ∷ xs) x h e = ap (λ (z : Lexeme). depth_behind d z.kind) (sym e)
depth_next d (suc i) (y ∷ xs) x h e = depth_next (depth_behind d y.kind) i xs x (omega arith) e

pub depth_more : (i : ℕ) (xs : List Lexeme) (x : Lexeme) → i < length xs → x ≡ get_or xs i x → depth_before xs (i + 1) ≡ depth_behind (depth_before xs i) x.kind
depth_more i xs x h e = rw add-one (depth_next 0 i xs x h e)

pub leads_through : {X : Type 0} → (q : Result X PatternFault) (r s : Reading) (f g : X → Reading) → r ≡ s → ((x : X) → g x ≡ f x) → GoesOn q s g → GoesOn q r f
leads_through (Ok x) r s f g h e k = h ∙ k ∙ e x
leads_through (Err fault.NoMemory) r s f g h e k = tt
leads_through (Err (fault.Bad at kind)) r s f g h e k = h ∙ k
