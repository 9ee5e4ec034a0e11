-- Each state can still be brought to the end; what does not fit a state begins no word.
use Rattle.std.proofs.Common.{◌≡◌, ℕ, Bool, true, List, [], ◌∷◌, ◌++◌, Some, None, Result, Ok, Err, refl, sym, ◌∙◌, ap, inl, inr, subst, codes}
use Rattle.od_pattern.specs.declared.path.Path.{Path}
use Rattle.od_pattern.specs.declared.path.Path.TheVariants as path
use Rattle.od_language.specs.declared.pattern_fault.PatternKind.{PatternKind}
use Rattle.od_language.specs.declared.pattern_fault.PatternKind.TheVariants as kind
use Rattle.od_language.specs.declared.lexeme.LexKind.{LexKind}
use Rattle.od_language.specs.declared.lexeme.LexKind.TheVariants.{Word, Equal, Quoted, Regex, Range, SquareOpen, RoundOpen, RoundClose, Or, Along, Against, AnyAlong, AnyAgainst, Question, Star, Plus, End}
use Rattle.od_language.specs.Alphabet.{plain}
use Rattle.od_language.specs.FirstFault.{Begins}
use Rattle.od_syntax.specs.Paths.{Paths}
use Rattle.od_language.specs.Depth.{BreaksRule}
use Rattle.od_language.specs.Machine.{◌>>=◌, steps, IsReader, Refusal}
use Rattle.od_language.proofs.Machine.{steps_append}
use Rattle.od_language.specs.ConstraintMachine as constraint
use Rattle.od_language.proofs.Constraints.Closing as closing
use Rattle.od_syntax.specs.PathMachine.{Around, top, round, State, atom, label, inside, part, turned, listed, whole, in_order, any_of, edge, step, carried, at_top, ended}
use Rattle.od_syntax.specs.PathMachine as machine
use Rattle.od_language.specs.ConstraintMachine.{NotDone}
use Rattle.od_syntax.proofs.Paths.Complete.{inside_steps, word_goes}
use Rattle.od_syntax.proofs.Paths.Sound.{Holds, holds, word_of}

abbrev pub Ends : State → Type 0
Ends s = (r : List LexKind) × (t : State) × (p : Path) × (steps step s r ≡ Ok t) × (ended t ≡ Some p)

ends_part : (k : Around) (p : Path) (a s : List Path) → Ends (part p a s k)
ends_part top p a s = ([], part p a s top, _, refl, refl)
ends_part (round b n k) p a s = let e = ends_part k (any_of (a ++ in_order (s ++ p ∷ []) ∷ [])) b n in (RoundClose ∷ e.0, e.1, e.2, e.3, e.4)

ends_turned : (k : Around) (a s : List Path) → Ends (turned a s k)
ends_turned top a s = ([], turned a s top, _, refl, refl)
ends_turned (round b n k) a s = let e = ends_part k (any_of (a ++ in_order s ∷ [])) b n in (RoundClose ∷ e.0, e.1, e.2, e.3, e.4)

ends_listed : (k : Around) (a : List Path) → Ends (listed a k)
ends_listed top a = ([], listed a top, _, refl, refl)
ends_listed (round b n k) a = let e = ends_part k (any_of a) b n in (RoundClose ∷ e.0, e.1, e.2, e.3, e.4)

ends_whole : (k : Around) (p : Path) → Ends (whole p k)
ends_whole top p = ([], whole p top, _, refl, refl)
ends_whole (round b n k) p = let e = ends_part k p b n in (RoundClose ∷ e.0, e.1, e.2, e.3, e.4)

ends_inside : (c : constraint.State) (a s : List Path) (k : Around) → NotDone c → Ends (inside c a s k)
ends_inside c a s k n =
    let d = closing.ends c in
    let e = ends_part k (path.Filter d.1) a s in
    (d.0 ++ e.0, e.1, e.2, steps_append step (inside c a s k) d.0 e.0 ∙ ap (λ q. q >>= λ t. steps step t e.0) (inside_steps d.0 c d.1 a s k n d.2) ∙ e.3, e.4)

pub ends : (w : List LexKind) (s : State) → Holds w s [] → Ends s
ends w (atom a s k) h = let e = ends_part k (edge true None) a s in (AnyAlong ∷ e.0, e.1, e.2, e.3, e.4)
ends w (label b a s k) h = let e = ends_part k _ a s in (Word [] ∷ e.0, e.1, e.2, e.3, e.4)
ends w (inside c a s k) h = ends_inside c a s k h.7
ends w (part p a s k) h = ends_part k p a s
ends w (turned a s k) h = ends_turned k a s
ends w (listed a k) h = ends_listed k a
ends w (whole p k) h = ends_whole k p

pub begins_word : (f : List LexKind) (s : State) → steps step (atom [] [] top) f ≡ Ok s → Begins Paths f
begins_word f s h =
    let e = ends f s (holds f s h) in
    let t : steps step (atom [] [] top) (f ++ e.0) ≡ Ok e.1 = steps_append step (atom [] [] top) f e.0 ∙ ap (λ q. q >>= λ u. steps step u e.0) h ∙ e.3 in
    (e.0, e.2, word_of (f ++ e.0) e.1 e.2 (holds (f ++ e.0) e.1 t) e.4)

-- outside a constraint nothing but `Expected` is said
abbrev Plainly : Result State PatternKind → Type 0
Plainly (Ok t) = Unit {0}
Plainly (Err j) = j ≡ kind.Expected

plain_atom : (x : LexKind) (a s : List Path) (k : Around) → Plainly (machine.step_atom x a s k)
plain_atom Along a s k = tt
plain_atom Against a s k = tt
plain_atom AnyAlong a s k = tt
plain_atom AnyAgainst a s k = tt
plain_atom SquareOpen a s k = tt
plain_atom RoundOpen a s k = tt
plain_atom x a s k = refl

plain_label : (x : LexKind) (b : Bool) (a s : List Path) (k : Around) → Plainly (machine.step_label x b a s k)
plain_label (Word t) b a s k = tt
plain_label (Quoted t) b a s k = tt
plain_label (Regex t) b a s k = tt
plain_label x b a s k = refl

plain_closed : (x : LexKind) (p : Path) (a s : List Path) (k : Around) → Plainly (machine.step_closed x p a s k)
plain_closed RoundClose p a s k = tt
plain_closed x p a s k = refl

plain_whole : (x : LexKind) (p : Path) (k : Around) → Plainly (machine.step_whole x p k)
plain_whole x p top = refl
plain_whole x p (round a s k) = plain_closed x p a s k

plain_listed : (x : LexKind) (a : List Path) (k : Around) → Plainly (machine.step_listed x a k)
plain_listed Or a k = tt
plain_listed x a k = plain_whole x (any_of a) k

plain_turned : (x : LexKind) (a s : List Path) (k : Around) → Plainly (machine.step_turned x a s k)
plain_turned Along a s k = tt
plain_turned Against a s k = tt
plain_turned AnyAlong a s k = tt
plain_turned AnyAgainst a s k = tt
plain_turned SquareOpen a s k = tt
plain_turned RoundOpen a s k = tt
plain_turned x a s k = plain_listed x (a ++ in_order s ∷ []) k

plain_part : (x : LexKind) (p : Path) (a s : List Path) (k : Around) → Plainly (machine.step_part x p a s k)
plain_part Question p a s k = tt
plain_part Star p a s k = tt
plain_part Plus p a s k = tt
plain_part (Range n m) p a s k = tt
plain_part x p a s k = plain_turned x a (s ++ p ∷ []) k

-- no word stands where no label does
no_whole : (name : List ℕ) (p : Path) (k : Around) → machine.step_whole (Word name) p k ≡ Err kind.Expected
no_whole name p top = refl
no_whole name p (round a s k) = refl

no_field : (s : State) (other : List ℕ) (i : PatternKind) → step s (Word other) ≡ Err i → steps step s (Word other ∷ Equal ∷ []) ≡ Err i
no_field s other i e = ap (λ q. q >>= λ t. steps step t (Equal ∷ [])) e

plain_by : (s : State) (x : LexKind) (j : PatternKind) → step s x ≡ Err j → Plainly (step s x) → ((name other : List ℕ) → x ≡ Word name → (i : PatternKind) × (step s (Word other) ≡ Err i)) → Refusal plain step s x j
plain_by s x j e h n = inl (subst Plainly e h, λ name other w. let i = n name other w in (i.0, no_field s other i.0 i.1))

-- a label takes any word
label_word : (b : Bool) (a s : List Path) (k : Around) (x : LexKind) (name : List ℕ) (j : PatternKind) → step (label b a s k) x ≡ Err j → x ≡ Word name → ⊥
label_word b a s k x name j e w = let t : step (label b a s k) (Word name) ≡ Err j = sym (ap (step (label b a s k)) w) ∙ e in absurd (cc)

abbrev err_or : PatternKind → Result State PatternKind → PatternKind
err_or j (Ok t) = j
err_or j (Err i) = i

carried_err : (q : Result constraint.State PatternKind) (a s : List Path) (k : Around) (j : PatternKind) → carried q a s k ≡ Err j → q ≡ Err j
carried_err (Ok (constraint.done c)) a s k j e = absurd (cc)
carried_err (Ok t) a s k j e = absurd (cc)
carried_err (Err i) a s k j e = let h : i ≡ j = ap (λ q. err_or j q) e in ap (λ z. Err z) h

-- what a constraint takes is taken inside a path
one_in : (q : Result constraint.State PatternKind) (a s : List Path) (k : Around) (t : constraint.State) → (q >>= λ u. Ok u) ≡ Ok t → (v : State) × ((carried q a s k >>= λ u. Ok u) ≡ Ok v)
one_in (Ok (constraint.done c)) a s k t e = (part (path.Filter c) a s k, refl)
one_in (Ok u) a s k t e = (inside u a s k, refl)
one_in (Err j) a s k t e = absurd (cc)

two_in : (q : Result constraint.State PatternKind) (y : LexKind) (a s : List Path) (k : Around) (t : constraint.State) → (q >>= λ u. steps constraint.step u (y ∷ [])) ≡ Ok t →
    (v : State) × ((carried q a s k >>= λ u. steps step u (y ∷ [])) ≡ Ok v)
two_in (Ok (constraint.done c)) y a s k t e = absurd (cc)
two_in (Ok u) y a s k t e = one_in (constraint.step u y) a s k t e
two_in (Err j) y a s k t e = absurd (cc)

refusal_inside : (c : constraint.State) (a s : List Path) (k : Around) (x : LexKind) (j : PatternKind) → constraint.step c x ≡ Err j → closing.Refuses c x (Err j) → Refusal plain step (inside c a s k) x j
refusal_inside c a s k x j e (inl is) =
    inl (is, λ name other w. (kind.Expected, no_field (inside c a s k) other kind.Expected (ap (λ q. carried q a s k) (closing.no_word c name other (sym (ap (constraint.step c) w) ∙ e ∙ ap (λ z. Err z) is)))))
refusal_inside c a s k x j e (inr (name, t, w, is, o)) = let v = two_in (constraint.step c (Word (codes "word"))) Equal a s k t o in inr (name, codes "word", v.0, w, is, v.1)

pub refusal : (s : State) (x : LexKind) (j : PatternKind) → step s x ≡ Err j → Refusal plain step s x j
refusal (atom a s k) x j e = plain_by (atom a s k) x j e (plain_atom x a s k) (λ name other w. (kind.Expected, refl))
refusal (label b a s k) x j e = plain_by (label b a s k) x j e (plain_label x b a s k) (λ name other w. absurd (label_word b a s k x name j e w))
refusal (inside c a s k) x j e = let r = carried_err (constraint.step c x) a s k j e in refusal_inside c a s k x j r (subst (closing.Refuses c x) r (closing.refuses c x))
refusal (part p a s k) x j e = plain_by (part p a s k) x j e (plain_part x p a s k) (λ name other w. (kind.Expected, no_whole other (any_of (a ++ in_order (s ++ p ∷ []) ∷ [])) k))
refusal (turned a s k) x j e = plain_by (turned a s k) x j e (plain_turned x a s k) (λ name other w. (kind.Expected, no_whole other (any_of (a ++ in_order s ∷ [])) k))
refusal (listed a k) x j e = plain_by (listed a k) x j e (plain_listed x a k) (λ name other w. (kind.Expected, no_whole other (any_of a) k))
refusal (whole p k) x j e = plain_by (whole p k) x j e (plain_whole x p k) (λ name other w. (kind.Expected, no_whole other p k))

end_whole : (p : Path) (k : Around) → machine.step_whole End p k ≡ Err kind.Expected
end_whole p top = refl
end_whole p (round a s k) = refl

end_inside : (c : constraint.State) (a s : List Path) (k : Around) → carried (constraint.step c End) a s k ≡ Err kind.Expected
end_inside c a s k = ap (λ q. carried q a s k) (closing.no_end c)

pub at_end : (s : State) → step s End ≡ Err kind.Expected
at_end (atom a s k) = refl
at_end (label b a s k) = refl
at_end (inside c a s k) = end_inside c a s k
at_end (part p a s k) = end_whole (any_of (a ++ in_order (s ++ p ∷ []) ∷ [])) k
at_end (turned a s k) = end_whole (any_of (a ++ in_order s ∷ [])) k
at_end (listed a k) = end_whole (any_of a) k
at_end (whole p k) = end_whole p k

pub not_end : (s t : State) → step s End ≡ Ok t → ⊥
not_end s t e = let n : step s End ≡ Err kind.Expected = at_end s in absurd (cc)

pub reader : (opened : ℕ) → IsReader plain Paths (BreaksRule opened) (atom [] [] top) step (closing.rule_at opened) ended
reader opened = record {
  word = word_goes;
  means = λ f s p h e. word_of f s p (holds f s h) e;
  begins = begins_word;
  breaks = λ f s x k h b. b;
  broken = λ f s x k h b. b;
  refusal = refusal;
  no_end = not_end;
}
