-- What the parser answers is the constraint that stands there, or the first fault.
use Rattle.std.proofs.Common.{◌≡◌, ℕ, ◌+◌, ◌-◌, ◌<◌, ◌≤◌, List, [], ◌∷◌, ◌++◌, length, drop, length-drop, Option, Some, None, Result, Ok, Err, refl, sym, ◌∙◌, ap, subst, append-nil, arith, IfOk}
use Rattle.od_pattern.specs.declared.pattern.Constraint.{Constraint}
use Rattle.od_language.specs.declared.pattern_fault.PatternKind.{PatternKind}
use Rattle.od_language.specs.declared.pattern_fault.PatternKind.TheVariants as kind
use Rattle.od_language.specs.declared.pattern_fault.PatternFault.{PatternFault}
use Rattle.od_language.specs.declared.pattern_fault.PatternFault.TheVariants as fault
use Rattle.od_language.specs.declared.lexeme.Lexeme.{Lexeme}
use Rattle.od_language.specs.declared.lexeme.LexKind.{LexKind}
use Rattle.od_language.specs.Grammar.{IsConstraint}
use Rattle.od_language.specs.Depth.{depth_behind, depth_after, broken_rule, BreaksRule}
use Rattle.od_language.specs.Alphabet.{plain, kinds, IsEnded}
use Rattle.od_language.specs.Answers.{IfBad, Gives, Refuses}
use Rattle.od_language.specs.Constraints.{IsConstraintRead, IsConstraintFault, OneConstraint}
use Rattle.od_language.specs.FirstFault.{Keeps}
use Rattle.od_language.specs.Machine.{◌>>=◌, stopped, checked, either_way, GoesOn}
use Rattle.od_language.specs.Machine.{run as run_behind}
use Rattle.od_language.proofs.Machine as reading
use Rattle.od_language.specs.ConstraintMachine.{State, start, done, step, ended}
use Rattle.od_lex.specs.Machine.{Reading, IsReadFrom, run, marked, unbroken}
use Rattle.od_language.specs.Written.{written, IsWritable}
use Rattle.od_language.proofs.Written.{written_back}
use Rattle.od_language.proofs.Constraints.Complete.{constraint_goes}
use Rattle.od_language.proofs.Constraints.Closing.{reader, rule_at}

-- the same machine, behind the lexemes before
abbrev go : ℕ → List LexKind → State → List Lexeme → Reading
go opened = run_behind plain step (rule_at opened) ended

depth_snoc : (d : ℕ) (f : List LexKind) (x : LexKind) → depth_after d (f ++ x ∷ []) ≡ depth_behind (depth_after d f) x
depth_snoc d [] x = refl
depth_snoc d (y ∷ f) x = depth_snoc (depth_behind d y) f x

same_checked : (r q : Option PatternKind) (at : ℕ) (a b : Reading) → r ≡ q → a ≡ b → (unbroken at r >>= λ _. a) ≡ checked q at b
same_checked None q at a b e h = h ∙ ap (λ z. checked z at b) e
same_checked (Some k) q at a b e h = ap (λ z. checked z at b) e

same_step : (r p : Option PatternKind) (x : Lexeme) (l : List Lexeme) (f g : State → Reading) → r ≡ p → ((t : State) → f t ≡ g t) → (q : Result State PatternKind) →
    (marked x.at q >>= λ t. unbroken x.at r >>= λ _. f t) ≡ either_way q (λ t. checked p x.at (g t)) (λ k. stopped None (x ∷ l) x.at k)
same_step r p x l f g e h (Ok t) = same_checked r p x.at (f t) (g t) e (h t)
same_step r p x l f g e h (Err k) = refl

-- the machine that counts the open brackets is the one that knows the lexemes before
runs : (opened : ℕ) (before : List LexKind) (d : ℕ) (s : State) (l : List Lexeme) → d ≡ depth_after opened before → run d s l ≡ go opened before s l
runs opened before d (done c) [] e = refl
runs opened before d (done c) (x ∷ l) e = refl
runs opened before d s [] e = refl
runs opened before d s (x ∷ l) e = same_step (broken_rule d x.kind) (rule_at opened before x.kind) x l
    (λ t. run (depth_behind d x.kind) t l) (λ t. go opened (before ++ x.kind ∷ []) t l) (ap (λ z. broken_rule z x.kind) e)
    (λ t. runs opened (before ++ x.kind ∷ []) (depth_behind d x.kind) t l (ap (λ z. depth_behind z x.kind) e ∙ sym (depth_snoc opened before x.kind))) (step s x.kind)

pub parsed_value : (q : Result (Constraint × ℕ) PatternFault) (d e from : ℕ) (ls : List Lexeme) → d ≡ e →
    GoesOn q (run d start (drop from ls)) (λ x. Ok (x.0, drop x.1 ls)) → IfOk q (λ x. (from < x.1) × (x.1 ≤ length ls)) →
    IfOk q (λ x. IsReadFrom e ls from x.0 x.1)
parsed_value (Ok (c, to)) d e from ls same h b = (
  omega (arith, b.0),
  reading.is_read plain IsConstraint (BreaksRule e) start step (rule_at e) ended (reader e) (drop from ls) c (drop to ls) (to - from)
      (sym (runs e [] d start (drop from ls) same) ∙ h) (omega (arith, b.0, b.1, length-drop from ls, length-drop to ls)),
)
parsed_value (Err k) d e from ls same h b = tt

pub parsed_fault : (q : Result (Constraint × ℕ) PatternFault) (d e from : ℕ) (ls : List Lexeme) → d ≡ e → IsEnded plain (drop from ls) →
    GoesOn q (run d start (drop from ls)) (λ x. Ok (x.0, drop x.1 ls)) → IfBad q (IsConstraintFault e (drop from ls))
parsed_fault (Ok x) d e from ls same w h = tt
parsed_fault (Err fault.NoMemory) d e from ls same w h = tt
parsed_fault (Err (fault.Bad at k)) d e from ls same w h =
    reading.is_fault plain IsConstraint (BreaksRule e) start step (rule_at e) ended (reader e) (drop from ls) at k w (sym (runs e [] d start (drop from ls) same) ∙ h)

pub only_value : (q : Result (Constraint × ℕ) PatternFault) (e from : ℕ) (l : List Lexeme) →
    IfOk q (λ x. (from ≤ x.1) × IsConstraintRead e l x.0 (x.1 - from)) → IfBad q (IsConstraintFault e l) →
    (c : Constraint) (n : ℕ) → IsConstraintRead e l c n → Gives q c (from + n)
only_value q e = reading.only_value plain IsConstraint (BreaksRule e) start step (rule_at e) ended (reader e) q

pub only_fault : (q : Result (Constraint × ℕ) PatternFault) (e from : ℕ) (l : List Lexeme) →
    IfOk q (λ x. (from ≤ x.1) × IsConstraintRead e l x.0 (x.1 - from)) → IfBad q (IsConstraintFault e l) →
    (at : ℕ) (k : PatternKind) → IsConstraintFault e l at k → Refuses q at k
only_fault q e = reading.only_fault plain IsConstraint (BreaksRule e) start step (rule_at e) ended (reader e) q

pub one_answer : (e : ℕ) (l : List Lexeme) → IsEnded plain l → OneConstraint e l
one_answer e = reading.one_answer plain IsConstraint (BreaksRule e) start step (rule_at e) ended (reader e)

-- lexemes whose kinds are split
parted : (l : List Lexeme) (a b : List LexKind) → kinds plain l ≡ a ++ b → (front rest : List Lexeme) × (l ≡ front ++ rest) × (kinds plain front ≡ a) × (length a ≡ length front)
parted l [] b e = ([], l, refl, refl, refl)
parted [] (x ∷ a) b e = absurd (cc)
parted (y ∷ l) (x ∷ a) b e =
    let first : y.kind ≡ x = cc in
    let rest : kinds plain l ≡ a ++ b = cc in
    let p = parted l a b rest in
    (y ∷ p.0, p.1, ap (λ z. y ∷ z) p.2, ap (λ z. z ∷ kinds plain p.0) first ∙ ap (λ z. x ∷ z) p.3, omega (arith, p.4))

-- a constraint that is written out, and keeps the rules, is read
pub written_read : (e : ℕ) (c : Constraint) (l : List Lexeme) (behind : List LexKind) → IsWritable c → kinds plain l ≡ written c ++ behind → Keeps (BreaksRule e) (written c) →
    IsConstraintRead e l c (length (written c))
written_read e c l behind w h keep =
    let p = parted l (written c) behind h in
    let is : kinds plain p.0 ≡ written c = p.3 in
    let reads : IsConstraint (kinds plain p.0) c [] = subst (λ (z : List LexKind). IsConstraint z c []) (append-nil (written c) ∙ sym is) (written_back c w []) in
    record {
      front = p.0;
      rest = p.1;
      parts = p.2;
      size = p.4;
      reads = reads;
      stops = λ x more g. reading.begins_none plain IsConstraint (BreaksRule e) start step (rule_at e) ended (reader e) (kinds plain p.0) (done c) x.kind kind.Expected (constraint_goes (kinds plain p.0) c [] reads) refl;
      keeps = subst (Keeps (BreaksRule e)) (sym is) keep;
    }
