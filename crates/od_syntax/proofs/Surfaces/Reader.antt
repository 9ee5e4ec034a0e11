-- Why a lexeme is not taken, where any body may be repeated; and the machine reads the grammar.
use Rattle.std.proofs.Common.{◌≡◌, ℕ, Bool, true, false, if◌then◌else◌, List, [], ◌∷◌, ◌++◌, Option, Some, Result, Ok, Err, refl, sym, ◌∙◌, ap, inl, inr, subst, codes}
use Rattle.od_pattern.specs.declared.pattern.Surface.{Surface}
use Rattle.od_pattern.specs.declared.pattern.Surface.TheVariants as surface
use Rattle.od_pattern.specs.declared.pattern.Constraint.{Constraint}
use Rattle.od_language.specs.declared.pattern_fault.PatternKind.{PatternKind}
use Rattle.od_language.specs.declared.pattern_fault.PatternKind.TheVariants as kind
use Rattle.od_language.specs.declared.lexeme.LexKind.{LexKind}
use Rattle.od_language.specs.declared.lexeme.LexKind.TheVariants.{Word, Equal, Quoted, Regex, Range, NameOpen, AheadIs, AheadNot, BehindIs, BehindNot, SquareOpen, RoundOpen, RoundClose, Or, At, Question, Star, Plus, Caret, Dollar, End}
use Rattle.od_language.specs.Identifier.{is_identifier}
use Rattle.od_language.specs.Alphabet.{plain}
use Rattle.od_language.specs.Machine.{◌>>=◌, steps, IsReader, Refusal}
use Rattle.od_language.specs.ConstraintMachine as constraint
use Rattle.od_language.proofs.Constraints.Closing as closing
use Rattle.od_syntax.specs.Surfaces.{Surfaces}
use Rattle.od_syntax.specs.Sizes.{may_always}
use Rattle.od_syntax.specs.Rules.{capture_or_own}
use Rattle.od_syntax.specs.SurfaceMachine.{Looking, Around, top, round, State, atom, name, look, inside, looked, part, counted, turned, listed, whole, in_order, any_of, repeat, filled, carried, named_if, begins_atom, ended}
use Rattle.od_syntax.specs.SurfaceMachine as machine
use Rattle.od_syntax.proofs.Surfaces.Complete.{word_goes}
use Rattle.od_syntax.proofs.Surfaces.Sound.{holds, word_of}
use Rattle.od_syntax.proofs.Surfaces.Closing.{begins_word}

abbrev step : State → LexKind → Result State PatternKind
step = machine.step may_always

-- outside a constraint nothing but `Expected` is said
abbrev pub Plainly : Result State PatternKind → Type 0
Plainly (Ok t) = Unit {0}
Plainly (Err j) = j ≡ kind.Expected

plain_atom : (x : LexKind) (a s : List Surface) (k : Around) → Plainly (machine.step_atom x a s k)
plain_atom SquareOpen a s k = tt
plain_atom (Word t) a s k = tt
plain_atom (Quoted t) a s k = tt
plain_atom (Regex t) a s k = tt
plain_atom At a s k = tt
plain_atom RoundOpen a s k = tt
plain_atom (NameOpen n) a s k = tt
plain_atom AheadIs a s k = tt
plain_atom AheadNot a s k = tt
plain_atom BehindIs a s k = tt
plain_atom BehindNot a s k = tt
plain_atom Caret a s k = tt
plain_atom Dollar a s k = tt
plain_atom x a s k = refl

plain_named : (b : Bool) (t : List ℕ) (a s : List Surface) (k : Around) → Plainly (named_if b t a s k)
plain_named true t a s k = tt
plain_named false t a s k = refl

plain_name : (x : LexKind) (a s : List Surface) (k : Around) → Plainly (machine.step_name x a s k)
plain_name (Word t) a s k = plain_named (is_identifier t) t a s k
plain_name x a s k = refl

plain_look : (x : LexKind) (w : Bool × Bool) (a s : List Surface) (k : Around) → Plainly (machine.step_look x w a s k)
plain_look SquareOpen w a s k = tt
plain_look x w a s k = refl

plain_looked : (x : LexKind) (w : Bool × Bool) (c : Constraint) (a s : List Surface) (k : Around) → Plainly (machine.step_looked x w c a s k)
plain_looked RoundClose w c a s k = tt
plain_looked x w c a s k = refl

plain_closed : (x : LexKind) (o : Option (List ℕ)) (p : Surface) (a s : List Surface) (k : Around) → Plainly (machine.step_closed x o p a s k)
plain_closed RoundClose o p a s k = tt
plain_closed x o p a s k = refl

pub plain_whole : (x : LexKind) (p : Surface) (k : Around) → Plainly (machine.step_whole x p k)
plain_whole x p top = refl
plain_whole x p (round o a s k) = plain_closed x o p a s k

pub plain_listed : (x : LexKind) (a : List Surface) (k : Around) → Plainly (machine.step_listed x a k)
plain_listed Or a k = tt
plain_listed x a k = plain_whole x (any_of a) k

plain_either : (x : LexKind) (a s : List Surface) (k : Around) (b : Bool) → Plainly (if b then machine.step_atom x a s k else machine.step_listed x (a ++ in_order s ∷ []) k)
plain_either x a s k true = plain_atom x a s k
plain_either x a s k false = plain_listed x (a ++ in_order s ∷ []) k

pub plain_turned : (x : LexKind) (a s : List Surface) (k : Around) → Plainly (machine.step_turned x a s k)
plain_turned x a s k = plain_either x a s k (begins_atom x)

pub plain_counted : (x : LexKind) (p : Surface) (n : ℕ) (m : Option ℕ) (a s : List Surface) (k : Around) → Plainly (machine.step_counted x p n m a s k)
plain_counted Question p n m a s k = tt
plain_counted x p n m a s k = plain_turned x a (s ++ repeat p n m false ∷ []) k

pub plain_part : (x : LexKind) (p : Surface) (a s : List Surface) (k : Around) → Plainly (machine.step_part may_always x p a s k)
plain_part Question p a s k = tt
plain_part Star p a s k = tt
plain_part Plus p a s k = tt
plain_part (Range n m) p a s k = tt
plain_part x p a s k = plain_turned x a (s ++ p ∷ []) k

-- how another word and `=` fare where a word is refused
abbrev Refused : State → LexKind → PatternKind → Type 0
Refused s x j = step s x ≡ Err j → (t other : List ℕ) → x ≡ Word t → (i : PatternKind) × (steps step s (Word other ∷ Equal ∷ []) ≡ Err i)

plain_by : (s : State) (x : LexKind) (j : PatternKind) → Plainly (step s x) → Refused s x j → step s x ≡ Err j → Refusal plain step s x j
plain_by s x j h n e = inl (subst Plainly e h, n e)

-- a state that refuses every word
never : (s : State) (x : LexKind) (j : PatternKind) → ((t : List ℕ) → step s (Word t) ≡ Err kind.Expected) → Refused s x j
never s x j h e t other w = (kind.Expected, ap (λ q. q >>= λ u. steps step u (Equal ∷ [])) (h other))

-- a state that takes every word
always : (s : State) (x : LexKind) (j : PatternKind) → ((t : List ℕ) → (u : State) × (step s (Word t) ≡ Ok u)) → Refused s x j
always s x j h e t other w = let u = h t in let f : step s (Word t) ≡ Err j = sym (ap (step s) w) ∙ e in let g : step s (Word t) ≡ Ok u.0 = u.1 in absurd (cc)

word_whole : (t : List ℕ) (p : Surface) (k : Around) → machine.step_whole (Word t) p k ≡ Err kind.Expected
word_whole t p top = refl
word_whole t p (round o a s k) = refl

equal_whole : (p : Surface) (k : Around) → machine.step_whole Equal p k ≡ Err kind.Expected
equal_whole p top = refl
equal_whole p (round o a s k) = refl

end_whole : (p : Surface) (k : Around) → machine.step_whole End p k ≡ Err kind.Expected
end_whole p top = refl
end_whole p (round o a s k) = refl

-- no `=` behind a label
named_equal : (b : Bool) (t : List ℕ) (a s : List Surface) (k : Around) → (i : PatternKind) × ((named_if b t a s k >>= λ u. steps step u (Equal ∷ [])) ≡ Err i)
named_equal true t a s k = (kind.Expected, ap (λ q. q >>= λ u. Ok u) (equal_whole (any_of (a ++ in_order (s ++ surface.Label t ∷ []) ∷ [])) k))
named_equal false t a s k = (kind.Expected, refl)

-- inside a constraint
abbrev err_or : PatternKind → Result State PatternKind → PatternKind
err_or j (Ok t) = j
err_or j (Err i) = i

carried_err : (q : Result constraint.State PatternKind) (w : Looking) (a s : List Surface) (k : Around) (j : PatternKind) → carried q w a s k ≡ Err j → q ≡ Err j
carried_err (Ok (constraint.done c)) w a s k j e = absurd (cc)
carried_err (Ok t) w a s k j e = absurd (cc)
carried_err (Err i) w a s k j e = let h : i ≡ j = ap (λ q. err_or j q) e in ap (λ z. Err z) h

one_in : (q : Result constraint.State PatternKind) (w : Looking) (a s : List Surface) (k : Around) (t : constraint.State) → (q >>= λ u. Ok u) ≡ Ok t → (v : State) × ((carried q w a s k >>= λ u. Ok u) ≡ Ok v)
one_in (Ok (constraint.done c)) w a s k t e = (filled w c a s k, refl)
one_in (Ok u) w a s k t e = (inside w u a s k, refl)
one_in (Err j) w a s k t e = absurd (cc)

two_in : (q : Result constraint.State PatternKind) (y : LexKind) (w : Looking) (a s : List Surface) (k : Around) (t : constraint.State) → (q >>= λ u. steps constraint.step u (y ∷ [])) ≡ Ok t →
    (v : State) × ((carried q w a s k >>= λ u. steps step u (y ∷ [])) ≡ Ok v)
two_in (Ok (constraint.done c)) y w a s k t e = absurd (cc)
two_in (Ok u) y w a s k t e = one_in (constraint.step u y) w a s k t e
two_in (Err j) y w a s k t e = absurd (cc)

refusal_inside : (v : Looking) (c : constraint.State) (a s : List Surface) (k : Around) (x : LexKind) (j : PatternKind) → constraint.step c x ≡ Err j → closing.Refuses c x (Err j) → Refusal plain step (inside v c a s k) x j
refusal_inside v c a s k x j e (inl is) =
    inl (is, λ t other w. (kind.Expected, ap (λ q. carried q v a s k >>= λ u. steps step u (Equal ∷ [])) (closing.no_word c t other (sym (ap (constraint.step c) w) ∙ e ∙ ap (λ z. Err z) is))))
refusal_inside v c a s k x j e (inr (t, u, w, is, o)) = let r = two_in (constraint.step c (Word (codes "word"))) Equal v a s k u o in inr (t, codes "word", r.0, w, is, r.1)

pub refusal : (s : State) (x : LexKind) (j : PatternKind) → step s x ≡ Err j → Refusal plain step s x j
refusal (atom a s k) x j = plain_by (atom a s k) x j (plain_atom x a s k) (always (atom a s k) x j (λ t. (_, refl)))
refusal (name a s k) x j = plain_by (name a s k) x j (plain_name x a s k) (λ e t other w. named_equal (is_identifier other) other a s k)
refusal (look v a s k) x j = plain_by (look v a s k) x j (plain_look x v a s k) (never (look v a s k) x j (λ t. refl))
refusal (inside v c a s k) x j = λ e. let r = carried_err (constraint.step c x) v a s k j e in refusal_inside v c a s k x j r (subst (closing.Refuses c x) r (closing.refuses c x))
refusal (looked v c a s k) x j = plain_by (looked v c a s k) x j (plain_looked x v c a s k) (never (looked v c a s k) x j (λ t. refl))
refusal (part p a s k) x j = plain_by (part p a s k) x j (plain_part x p a s k) (always (part p a s k) x j (λ t. (_, refl)))
refusal (counted p n m a s k) x j = plain_by (counted p n m a s k) x j (plain_counted x p n m a s k) (always (counted p n m a s k) x j (λ t. (_, refl)))
refusal (turned a s k) x j = plain_by (turned a s k) x j (plain_turned x a s k) (always (turned a s k) x j (λ t. (_, refl)))
refusal (listed a k) x j = plain_by (listed a k) x j (plain_listed x a k) (never (listed a k) x j (λ t. word_whole t (any_of a) k))
refusal (whole p k) x j = plain_by (whole p k) x j (plain_whole x p k) (never (whole p k) x j (λ t. word_whole t p k))

pub at_end : (s : State) → step s End ≡ Err kind.Expected
at_end (atom a s k) = refl
at_end (name a s k) = refl
at_end (look v a s k) = refl
at_end (inside v c a s k) = ap (λ q. carried q v a s k) (closing.no_end c)
at_end (looked v c a s k) = refl
at_end (part p a s k) = end_whole (any_of (a ++ in_order (s ++ p ∷ []) ∷ [])) k
at_end (counted p n m a s k) = end_whole (any_of (a ++ in_order (s ++ repeat p n m false ∷ []) ∷ [])) k
at_end (turned a s k) = end_whole (any_of (a ++ in_order s ∷ [])) k
at_end (listed a k) = end_whole (any_of a) k
at_end (whole p k) = end_whole p k

pub not_end : (s t : State) → step s End ≡ Ok t → ⊥
not_end s t e = let n : step s End ≡ Err kind.Expected = at_end s in absurd (cc)

-- the rules of single lexemes
abbrev pub LexemeRules : List LexKind → LexKind → PatternKind → Type 0
LexemeRules f x k = capture_or_own f x ≡ Some k

pub reader : IsReader plain (Surfaces may_always) LexemeRules (atom [] [] top) step capture_or_own ended
reader = record {
  word = word_goes may_always;
  means = λ f s p h e. word_of may_always f s p (holds may_always f s h) e;
  begins = begins_word may_always;
  breaks = λ f s x k h b. b;
  broken = λ f s x k h b. b;
  refusal = refusal;
  no_end = not_end;
}
