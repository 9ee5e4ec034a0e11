-- Each state can still be brought to the end; what does not fit a state begins no word.
use Rattle.std.proofs.Common.{◌≡◌, ℕ, List, [], ◌∷◌, ◌++◌, Option, Some, None, Result, Ok, Err, refl, sym, ◌∙◌, ap, codes, ◌⊎◌, inl, inr, subst}
use Rattle.od_pattern.specs.declared.pattern.Field.{Field}
use Rattle.od_language.specs.declared.pattern_fault.PatternKind.{PatternKind}
use Rattle.od_language.specs.declared.pattern_fault.PatternKind.TheVariants as kind
use Rattle.od_language.specs.declared.lexeme.LexKind.{LexKind}
use Rattle.od_language.specs.declared.lexeme.LexKind.TheVariants.{Word, Quoted, Regex, SquareOpen, SquareClose, RoundOpen, RoundClose, And, Or, Not, Equal, End}
use Rattle.od_pattern.specs.declared.pattern.Constraint.{Constraint}
use Rattle.od_pattern.specs.declared.pattern.Constraint.TheVariants as constraint
use Rattle.od_language.specs.Grammar.{IsConstraint}
use Rattle.od_language.specs.Fields.{field_named}
use Rattle.od_language.specs.Alphabet.{plain}
use Rattle.od_language.specs.FirstFault.{Begins}
use Rattle.od_language.proofs.Machine.{steps_append}
use Rattle.od_language.specs.ConstraintMachine.{ended, Open, square, round, State, start, operand, named, equals, after, done, negated, both, either, step, named_by}
use Rattle.od_language.specs.Machine.{Rule, steps, ◌>>=◌, IsReader, Refusal}
use Rattle.od_language.specs.Depth.{broken_rule, depth_after, BreaksRule}
use Rattle.od_language.specs.ConstraintMachine as machine
use Rattle.od_language.proofs.Constraints.Complete.{constraint_goes}
use Rattle.od_language.proofs.Constraints.Sound.{read_is_word}

abbrev pub Ends : State → Type 0
Ends s = (r : List LexKind) × (c : Constraint) × (steps step s r ≡ Ok (done c))

ends_after : (k : Open) (c : Constraint) (o : Option Constraint) → Ends (after c o k)
ends_after square c o = (SquareClose ∷ [], either o c, refl)
ends_after (round n a p k) c o = let e = ends_after k (both a (negated n (either o c))) p in (RoundClose ∷ e.0, e.1, e.2)

ends_equals : (f : Field) (n : ℕ) (a o : Option Constraint) (k : Open) → Ends (equals f n a o k)
ends_equals f n a o k = let e = ends_after k _ o in (Word [] ∷ e.0, e.1, e.2)

word_field : (n : ℕ) (a o : Option Constraint) (k : Open) → (t : State) × (step (operand n a o k) (Word (codes "word")) ≡ Ok t) × Ends t
unfolding field_named
word_field n a o k = let e = ends_equals _ n a o k in (named _ n a o k, refl, (Equal ∷ e.0, e.1, e.2))

word_equals : (n : ℕ) (a o : Option Constraint) (k : Open) → (t : State) × (steps step (operand n a o k) (Word (codes "word") ∷ Equal ∷ []) ≡ Ok t)
unfolding field_named
word_equals n a o k = (equals _ n a o k, refl)

ends_operand : (n : ℕ) (a o : Option Constraint) (k : Open) → Ends (operand n a o k)
ends_operand n a o k =
    let w = word_field n a o k in (Word (codes "word") ∷ w.2.0, w.2.1, ap (λ z. z >>= λ t. steps step t w.2.0) w.1 ∙ w.2.2)

pub ends : (s : State) → Ends s
ends start = (SquareOpen ∷ SquareClose ∷ [], constraint.Any, refl)
ends machine.first = (SquareClose ∷ [], constraint.Any, refl)
ends (operand n a o k) = ends_operand n a o k
ends (named f n a o k) = let e = ends_equals f n a o k in (Equal ∷ e.0, e.1, e.2)
ends (equals f n a o k) = ends_equals f n a o k
ends (after c o k) = ends_after k c o
ends (done c) = ([], c, refl)

-- a front that the machine takes begins a word
pub begins_word : (f : List LexKind) (s : State) → steps step start f ≡ Ok s → Begins IsConstraint f
begins_word f s h = let e = ends s in (e.0, e.1, read_is_word (f ++ e.0) e.1 (steps_append step start f e.0 ∙ ap (λ z. z >>= λ t. steps step t e.0) h ∙ e.2))

-- what a refusal says: where a word is no field, a field and its `=` could stand
abbrev pub Refuses : State → LexKind → Result State PatternKind → Type 0
Refuses s x (Ok t) = Unit {0}
Refuses s x (Err k) = (k ≡ kind.Expected) ⊎ ((name : List ℕ) × (t : State) × (x ≡ Word name) × (k ≡ kind.UnknownField) × (steps step s (Word (codes "word") ∷ Equal ∷ []) ≡ Ok t))

refuses_named : (s : State) (name : List ℕ) (n : ℕ) (a o : Option Constraint) (k : Open) (q : Option Field) (t : State) → steps step s (Word (codes "word") ∷ Equal ∷ []) ≡ Ok t →
    Refuses s (Word name) (named_by q n a o k)
refuses_named s name n a o k (Some f) t e = tt
refuses_named s name n a o k None t e = inr (name, t, refl, refl, e)

refuses_operand : (x : LexKind) (n : ℕ) (a o : Option Constraint) (k : Open) → Refuses (operand n a o k) x (machine.step_operand x n a o k)
refuses_operand Not n a o k = tt
refuses_operand RoundOpen n a o k = tt
refuses_operand (Word name) n a o k = let w = word_equals n a o k in refuses_named (operand n a o k) name n a o k (field_named name) w.0 w.1
refuses_operand x n a o k = inl refl

refuses_first : (x : LexKind) → Refuses machine.first x (machine.step_first x)
refuses_first SquareClose = tt
refuses_first x = refuses_operand x 0 None None square

refuses_named_by : (x : LexKind) (f : Field) (n : ℕ) (a o : Option Constraint) (k : Open) → Refuses (named f n a o k) x (machine.step_named x f n a o k)
refuses_named_by Equal f n a o k = tt
refuses_named_by x f n a o k = inl refl

refuses_equals : (x : LexKind) (f : Field) (n : ℕ) (a o : Option Constraint) (k : Open) → Refuses (equals f n a o k) x (machine.step_equals x f n a o k)
refuses_equals (Word t) f n a o k = tt
refuses_equals (Quoted t) f n a o k = tt
refuses_equals (Regex t) f n a o k = tt
refuses_equals x f n a o k = inl refl

refuses_square : (s : State) (x : LexKind) (c : Constraint) (o : Option Constraint) → Refuses s x (machine.step_after_square x c o)
refuses_square s SquareClose c o = tt
refuses_square s x c o = inl refl

refuses_round : (s : State) (x : LexKind) (c : Constraint) (o : Option Constraint) (n : ℕ) (a p : Option Constraint) (k : Open) → Refuses s x (machine.step_after_round x c o n a p k)
refuses_round s RoundClose c o n a p k = tt
refuses_round s x c o n a p k = inl refl

refuses_close : (s : State) (x : LexKind) (c : Constraint) (o : Option Constraint) (k : Open) → Refuses s x (machine.step_close x c o k)
refuses_close s x c o square = refuses_square s x c o
refuses_close s x c o (round n a p k) = refuses_round s x c o n a p k

refuses_after : (x : LexKind) (c : Constraint) (o : Option Constraint) (k : Open) → Refuses (after c o k) x (machine.step_after x c o k)
refuses_after And c o k = tt
refuses_after Or c o k = tt
refuses_after x c o k = refuses_close (after c o k) x c o k

refuses_start : (x : LexKind) → Refuses start x (machine.step_start x)
refuses_start SquareOpen = tt
refuses_start x = inl refl

pub refuses : (s : State) (x : LexKind) → Refuses s x (step s x)
refuses start x = refuses_start x
refuses machine.first x = refuses_first x
refuses (operand n a o k) x = refuses_operand x n a o k
refuses (named f n a o k) x = refuses_named_by x f n a o k
refuses (equals f n a o k) x = refuses_equals x f n a o k
refuses (after c o k) x = refuses_after x c o k
refuses (done c) x = inl refl

-- where a word is not expected, no word is
no_field : (q : Option Field) (n : ℕ) (a o : Option Constraint) (k : Open) → named_by q n a o k ≡ Err kind.Expected → ⊥
no_field (Some f) n a o k e = absurd (cc)
no_field None n a o k e = absurd (cc)

pub no_word : (s : State) (name other : List ℕ) → step s (Word name) ≡ Err kind.Expected → step s (Word other) ≡ Err kind.Expected
no_word start name other e = refl
no_word machine.first name other e = absurd (no_field (field_named name) 0 None None square e)
no_word (operand n a o k) name other e = absurd (no_field (field_named name) n a o k e)
no_word (named f n a o k) name other e = refl
no_word (equals f n a o k) name other e = absurd (cc)
no_word (after c o square) name other e = refl
no_word (after c o (round n a p k)) name other e = refl
no_word (done c) name other e = refl

pub no_end : (s : State) → step s End ≡ Err kind.Expected
no_end start = refl
no_end machine.first = refl
no_end (operand n a o k) = refl
no_end (named f n a o k) = refl
no_end (equals f n a o k) = refl
no_end (after c o square) = refl
no_end (after c o (round n a p k)) = refl
no_end (done c) = refl

abbrev some_value : Constraint → Option Constraint
some_value c = Some c

some_is : (b c : Constraint) → some_value b ≡ some_value c → b ≡ c
some_is b c e = cc

ended_by : (s : State) (c : Constraint) → ended s ≡ Some c → s ≡ done c
ended_by (done b) c e = ap (λ z. done z) (some_is b c e)
ended_by s c e = absurd (cc)

refusal : (s : State) (x : LexKind) (k : PatternKind) → step s x ≡ Err k → Refuses s x (Err k) → Refusal plain step s x k
refusal s x k e (inl is) = inl (is, λ name other w. (kind.Expected, ap (λ z. z >>= λ t. steps step t (Equal ∷ [])) (no_word s name other (sym (ap (step s) w) ∙ e ∙ ap (λ z. Err z) is))))
refusal s x k e (inr (name, t, w, is, o)) = inr (name, codes "word", t, w, is, o)

not_end : (s t : State) → step s End ≡ Ok t → ⊥
not_end s t e = let n : step s End ≡ Err kind.Expected = no_end s in absurd (cc)

-- the rules of a constraint, as a test
abbrev pub rule_at : ℕ → Rule LexKind
rule_at opened front x = broken_rule (depth_after opened front) x

pub reader : (opened : ℕ) → IsReader plain IsConstraint (BreaksRule opened) start step (rule_at opened) ended
reader opened = record {
  word = λ f c u. (done c, constraint_goes f c [] u, refl);
  means = λ f s c h e. read_is_word f c (h ∙ ap (λ z. Ok z) (ended_by s c e));
  begins = begins_word;
  breaks = λ f s x k h b. b;
  broken = λ f s x k h b. b;
  refusal = λ s x k e. refusal s x k e (subst (Refuses s x) e (refuses s x));
  no_end = not_end;
}
