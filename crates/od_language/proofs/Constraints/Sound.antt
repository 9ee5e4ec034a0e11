-- What takes the machine to its end is a word of the grammar.
use Rattle.std.proofs.Common.{◌≡◌, ℕ, List, [], ◌∷◌, Option, Some, None, Result, Ok, Err, refl, sym, subst}
use Rattle.od_pattern.specs.declared.pattern.Field.{Field}
use Rattle.od_pattern.specs.declared.pattern.Value.{Value}
use Rattle.od_pattern.specs.declared.pattern.Value.TheVariants.{Plain}
use Rattle.od_pattern.specs.declared.pattern.Value.TheVariants as value
use Rattle.od_language.specs.declared.pattern_fault.PatternKind.{PatternKind}
use Rattle.od_language.specs.declared.lexeme.LexKind.{LexKind}
use Rattle.od_language.specs.declared.lexeme.LexKind.TheVariants.{Word, Quoted, Regex, SquareOpen, SquareClose, RoundOpen, RoundClose, And, Or, Not, Equal}
use Rattle.od_pattern.specs.declared.pattern.Constraint.{Constraint}
use Rattle.od_pattern.specs.declared.pattern.Constraint.TheVariants as constraint
use Rattle.od_language.specs.Grammar.{Unary, negation, group, test, Ands, one, more, Ors, first, next, IsConstraint, empty, some}
use Rattle.od_language.specs.Fields.{compared_text, IsValue, word, quoted, regex, field_named}
use Rattle.od_language.specs.ConstraintMachine.{Open, square, round, State, start, operand, named, equals, after, done, negated, both, either, step, named_by}
use Rattle.od_language.specs.Machine.{steps, ◌>>=◌}
use Rattle.od_language.specs.ConstraintMachine as machine

-- the `or` that stands before m, in brackets that begin at g
abbrev pub OrBefore : List LexKind → Option Constraint → List LexKind → Type 0
OrBefore g None m = g ≡ m
OrBefore g (Some a) m = Ors g a (Or ∷ m)

-- the `and` that stands before l
abbrev pub AndBefore : List LexKind → Option Constraint → List LexKind → Type 0
AndBefore m None l = m ≡ l
AndBefore m (Some a) l = Ands m a (And ∷ l)

-- n times `!` between p and l
abbrev pub Denies : ℕ → List LexKind → List LexKind → Type 0
Denies n p l = (c : Constraint) (r : List LexKind) → Unary l c r → Unary p (negated n c) r

-- the brackets of k begin before g
abbrev pub Inside : List LexKind → Open → List LexKind → Type 0
Inside w square g = w ≡ SquareOpen ∷ g
Inside w (round n a o k) g = (b m p : List LexKind) × Inside w k b × OrBefore b o m × AndBefore m a p × Denies n p (RoundOpen ∷ g)

-- what was read of w, up to l
abbrev pub Holds : List LexKind → State → List LexKind → Type 0
Holds w start l = w ≡ l
Holds w machine.first l = w ≡ SquareOpen ∷ l
Holds w (operand n a o k) l = (g m p : List LexKind) × Inside w k g × OrBefore g o m × AndBefore m a p × Denies n p l
Holds w (named f n a o k) l = (g m p : List LexKind) × (name : List ℕ) × Inside w k g × OrBefore g o m × AndBefore m a p × Denies n p (Word name ∷ l) × (field_named name ≡ Some f)
Holds w (equals f n a o k) l = (g m p : List LexKind) × (name : List ℕ) × Inside w k g × OrBefore g o m × AndBefore m a p × Denies n p (Word name ∷ Equal ∷ l) × (field_named name ≡ Some f)
Holds w (after c o k) l = (g m : List LexKind) × Inside w k g × OrBefore g o m × Ands m c l
Holds w (done c) l = IsConstraint w c l

ands_of : (m : List LexKind) (a : Option Constraint) (p : List LexKind) (c : Constraint) (r : List LexKind) → AndBefore m a p → Unary p c r → Ands m (both a c) r
ands_of m None p c r e u = one m c r (subst (λ (z : List LexKind). Unary z c r) (sym e) u)
ands_of m (Some a) p c r h u = more m a p c r h u

ors_of : (g : List LexKind) (o : Option Constraint) (m : List LexKind) (c : Constraint) (r : List LexKind) → OrBefore g o m → Ands m c r → Ors g (either o c) r
ors_of g None m c r e u = first g c r (subst (λ (z : List LexKind). Ands z c r) (sym e) u)
ors_of g (Some a) m c r h u = next g a m c r h u

-- what holds behind one more lexeme that fits
abbrev pub Good : List LexKind → List LexKind → Result State PatternKind → Type 0
Good w l (Ok t) = Holds w t l
Good w l (Err k) = Unit {0}

good_named : (w l : List LexKind) (name : List ℕ) (n : ℕ) (a o : Option Constraint) (k : Open) → Holds w (operand n a o k) (Word name ∷ l) →
    (q : Option Field) → field_named name ≡ q → Good w l (named_by q n a o k)
good_named w l name n a o k h (Some f) e = (h.0, h.1, h.2, name, h.3, h.4, h.5, h.6, e)
good_named w l name n a o k h None e = tt

good_operand : (w l : List LexKind) (x : LexKind) (n : ℕ) (a o : Option Constraint) (k : Open) → Holds w (operand n a o k) (x ∷ l) → Good w l (step (operand n a o k) x)
good_operand w l Not n a o k h = (h.0, h.1, h.2, h.3, h.4, h.5, λ c r u. h.6 (constraint.Not c) r (negation l c r u))
good_operand w l RoundOpen n a o k h = (l, l, l, (h.0, h.1, h.2, h.3, h.4, h.5, h.6), refl, refl, λ c r u. u)
good_operand w l (Word name) n a o k h = good_named w l name n a o k h (field_named name) refl
good_operand w l x n a o k h = tt

good_first : (w l : List LexKind) (x : LexKind) → w ≡ SquareOpen ∷ x ∷ l → Good w l (step machine.first x)
good_first w l SquareClose e = subst (λ (z : List LexKind). IsConstraint z constraint.Any l) (sym e) (empty l)
good_first w l x e = good_operand w l x 0 None None square (x ∷ l, x ∷ l, x ∷ l, e, refl, refl, λ c r u. u)

good_value : (w l : List LexKind) (x : LexKind) (f : Field) (n : ℕ) (a o : Option Constraint) (k : Open) (v : Value) → IsValue f x v →
    Holds w (equals f n a o k) (x ∷ l) → Holds w (after (both a (negated n (constraint.Is f v))) o k) l
good_value w l x f n a o k v i h = (h.0, h.1, h.4, h.5, ands_of h.1 a h.2 (negated n (constraint.Is f v)) l h.6 (h.7 (constraint.Is f v) l (test h.3 f x v l h.8 i)))

good_equals : (w l : List LexKind) (x : LexKind) (f : Field) (n : ℕ) (a o : Option Constraint) (k : Open) → Holds w (equals f n a o k) (x ∷ l) → Good w l (step (equals f n a o k) x)
good_equals w l (Word t) f n a o k h = good_value w l (Word t) f n a o k (Plain (compared_text f t)) (word f t) h
good_equals w l (Quoted t) f n a o k h = good_value w l (Quoted t) f n a o k (Plain (compared_text f t)) (quoted f t) h
good_equals w l (Regex t) f n a o k h = good_value w l (Regex t) f n a o k (value.Regex t) (regex f t) h
good_equals w l x f n a o k h = tt

good_named_by : (w l : List LexKind) (x : LexKind) (f : Field) (n : ℕ) (a o : Option Constraint) (k : Open) → Holds w (named f n a o k) (x ∷ l) → Good w l (step (named f n a o k) x)
good_named_by w l Equal f n a o k h = h
good_named_by w l x f n a o k h = tt

good_square : (w l : List LexKind) (x : LexKind) (c : Constraint) (o : Option Constraint) → Holds w (after c o square) (x ∷ l) → Good w l (machine.step_after_square x c o)
good_square w l SquareClose c o h = subst (λ (z : List LexKind). IsConstraint z (either o c) l) (sym h.2) (some h.0 (either o c) l (ors_of h.0 o h.1 c (SquareClose ∷ l) h.3 h.4))
good_square w l x c o h = tt

good_round : (w l : List LexKind) (x : LexKind) (c : Constraint) (o : Option Constraint) (n : ℕ) (a p : Option Constraint) (k : Open) → Holds w (after c o (round n a p k)) (x ∷ l) → Good w l (machine.step_after_round x c o n a p k)
good_round w l RoundClose c o n a p k (g, m, (b, q, s, i, e, d, t), j, u) =
    (b, q, i, e, ands_of q a s (negated n (either o c)) l d (t (either o c) l (group g (either o c) l (ors_of g o m c (RoundClose ∷ l) j u))))
good_round w l x c o n a p k h = tt

good_close : (w l : List LexKind) (x : LexKind) (c : Constraint) (o : Option Constraint) (k : Open) → Holds w (after c o k) (x ∷ l) → Good w l (machine.step_close x c o k)
good_close w l x c o square h = good_square w l x c o h
good_close w l x c o (round n a p k) h = good_round w l x c o n a p k h

good_after : (w l : List LexKind) (x : LexKind) (c : Constraint) (o : Option Constraint) (k : Open) → Holds w (after c o k) (x ∷ l) → Good w l (step (after c o k) x)
good_after w l And c o k h = (h.0, h.1, l, h.2, h.3, h.4, λ b r u. u)
good_after w l Or c o k h = (h.0, l, l, h.2, ors_of h.0 o h.1 c (Or ∷ l) h.3 h.4, refl, λ b r u. u)
good_after w l x c o k h = good_close w l x c o k h

good_start : (w l : List LexKind) (x : LexKind) → w ≡ x ∷ l → Good w l (step start x)
good_start w l SquareOpen e = e
good_start w l x e = tt

pub good : (w l : List LexKind) (s : State) (x : LexKind) → Holds w s (x ∷ l) → Good w l (step s x)
good w l start x h = good_start w l x h
good w l machine.first x h = good_first w l x h
good w l (operand n a o k) x h = good_operand w l x n a o k h
good w l (named f n a o k) x h = good_named_by w l x f n a o k h
good w l (equals f n a o k) x h = good_equals w l x f n a o k h
good w l (after c o k) x h = good_after w l x c o k h
good w l (done c) x h = tt

good_then : (w l : List LexKind) (q : Result State PatternKind) (t : State) → Good w l q → ((s : State) → Holds w s l → steps step s l ≡ Ok t → Holds w t []) →
    (q >>= λ s. steps step s l) ≡ Ok t → Holds w t []
good_then w l (Ok s) t h f e = f s h e
good_then w l (Err k) t h f e = absurd (cc)

pub stays_good : (w l : List LexKind) (s t : State) → Holds w s l → steps step s l ≡ Ok t → Holds w t []
stays_good w [] s t h e = let h0 : s ≡ t = cc in subst (λ (z : State). Holds w z []) h0 h
stays_good w (x ∷ l) s t h e = good_then w l (step s x) t (good w l s x h) (λ z. stays_good w l z t) e

pub read_is_word : (l : List LexKind) (c : Constraint) → steps step start l ≡ Ok (done c) → IsConstraint l c []
read_is_word l c e = stays_good l l start (done c) refl e
