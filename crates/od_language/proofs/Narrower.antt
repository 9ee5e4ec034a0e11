-- One lexeme breaks one rule at most; and a machine of the wide grammar reads it under the rules that say where the narrow one stops.
use Rattle.std.proofs.Common.{◌≡◌, List, [], ◌∷◌, ◌++◌, Option, Some, None, Result, Ok, Err, refl, sym, ◌∙◌, ap, subst}
use Rattle.od_language.specs.declared.pattern_fault.PatternKind.{PatternKind}
use Rattle.od_language.specs.Alphabet.{Alphabet}
use Rattle.od_language.specs.Machine.{◌>>=◌, Step, Rule, steps, IsReader, first_broken}
use Rattle.od_language.specs.FirstFault.{Grammar, Rules, Begins}
use Rattle.od_language.specs.Narrower.{Narrows, BreaksInOrder, before, narrows, after}
use Rattle.od_language.specs.Narrower as narrower
use Rattle.od_language.proofs.Machine.{steps_one, front_taken}

abbrev some_kind : PatternKind → Option PatternKind
some_kind k = Some k

same_kind : (j k : PatternKind) → some_kind j ≡ some_kind k → j ≡ k
same_kind j k e = cc

not_both : (k : PatternKind) (q : Option PatternKind) → q ≡ None → q ≡ Some k → ⊥
not_both k q n s = absurd (cc)

module _ {K C : Type 0} (Wide Narrow : Grammar K C) (earlier : Rule K) (between : PatternKind) (later : Rule K) where
  pub one_rule : (front : List K) (x : K) (j k : PatternKind) → BreaksInOrder Wide Narrow earlier between later front x j →
      BreaksInOrder Wide Narrow earlier between later front x k → j ≡ k
  one_rule front x _ _ (before j e) (before k h) = same_kind j k (sym e ∙ h)
  one_rule front x _ _ (before j e) (narrows n w) = absurd (not_both j (earlier front x) n e)
  one_rule front x _ _ (before j e) (after k n o h) = absurd (not_both j (earlier front x) n e)
  one_rule front x _ _ (narrows n w) (before k h) = absurd (not_both k (earlier front x) n h)
  one_rule front x _ _ (narrows n w) (narrows m v) = refl
  one_rule front x _ _ (narrows n w) (after k m o h) = absurd (o w)
  one_rule front x _ _ (after j n o e) (before k h) = absurd (not_both k (earlier front x) n h)
  one_rule front x _ _ (after j n o e) (narrows m v) = absurd (o v)
  one_rule front x _ _ (after j n o e) (after k m p h) = same_kind j k (sym e ∙ h)

-- The machines of a wide and a narrow grammar go alike but where the rule between them is broken: `extra` says where.
module _ {X K S C : Type 0} (al : Alphabet X K) (Wide Narrow : Grammar K C) (start : S) (step narrow : Step S K) (ended : S → Option C)
    (Lexemes : Rules K) (rule : Rule K) (reader : IsReader al Wide Lexemes start step rule ended)
    (word : (f : List K) (c : C) → Narrow f c [] → (s : S) × (steps narrow start f ≡ Ok s) × (ended s ≡ Some c))
    (begins : (f : List K) (s : S) → steps narrow start f ≡ Ok s → Begins Narrow f)
    (earlier : Rule K) (between : PatternKind) (later : Rule K) (extra : S → K → Option PatternKind)
    (kept : (s : S) (x : K) → extra s x ≡ None → narrow s x ≡ step s x)
    (broke : (s : S) (x : K) (k : PatternKind) → extra s x ≡ Some k →
    (k ≡ between) × ((t : S) × (step s x ≡ Ok t)) × ((j : PatternKind) × (narrow s x ≡ Err j))) where
  abbrev rule_at : Result S PatternKind → Rule K
  rule_at = narrower.rule_at start narrow earlier later extra

  -- the rule behind a front
  abbrev pub rule_between : Rule K
  rule_between = narrower.rule_between start narrow earlier later extra

  abbrev pub Breaks : Rules K
  Breaks = BreaksInOrder Wide Narrow earlier between later

  kept_by : (s : S) (x : K) (t : S) (q : Option PatternKind) → extra s x ≡ q → narrow s x ≡ Ok t → extra s x ≡ None
  kept_by s x t None e h = e
  kept_by s x t (Some k) e h = let b = broke s x k e in let j = b.2.0 in let f : narrow s x ≡ Err j = b.2.1 in absurd (cc)

  -- what the narrow machine takes, the wide one takes
  one_wide : (s t : S) (x : K) → narrow s x ≡ Ok t → step s x ≡ Ok t
  one_wide s t x h = sym (kept s x (kept_by s x t (extra s x) refl h)) ∙ h

  wide_by : (s t : S) (x : K) (f : List K) (q : Result S PatternKind) → narrow s x ≡ q → ((u : S) → steps narrow u f ≡ Ok t → steps step u f ≡ Ok t) →
      (q >>= λ u. steps narrow u f) ≡ Ok t → steps step s (x ∷ f) ≡ Ok t
  wide_by s t x f (Ok u) e rec h = ap (λ q. q >>= λ v. steps step v f) (one_wide s u x e) ∙ rec u h
  wide_by s t x f (Err k) e rec h = absurd (cc)

  pub all_wide : (s t : S) (f : List K) → steps narrow s f ≡ Ok t → steps step s f ≡ Ok t
  all_wide s t [] h = h
  all_wide s t (x ∷ f) h = wide_by s t x f (narrow s x) refl (λ u. all_wide u t f) h

  -- a front that begins a narrow word is taken
  takes : (f : List K) → Begins Narrow f → (s : S) × (steps narrow start f ≡ Ok s)
  takes f (rest, c, u) = let w = word (f ++ rest) c u in let t = front_taken narrow start f rest w.0 w.1 in (t.0, t.1)

  wide_taken : (f : List K) (s : S) (x : K) (q : Result S PatternKind) → steps step start f ≡ Ok s → step s x ≡ q → Begins Wide (f ++ x ∷ []) → (t : S) × (step s x ≡ Ok t)
  wide_taken f s x (Ok t) h e b = (t, e)
  wide_taken f s x (Err k) h e (rest, c, u) =
      let w = reader.word ((f ++ x ∷ []) ++ rest) c u in
      let t = front_taken step start (f ++ x ∷ []) rest w.0 w.1 in
      let one : steps step start (f ++ x ∷ []) ≡ Err k = steps_one step f start s x (Err k) h e in
      let is : steps step start (f ++ x ∷ []) ≡ Ok t.0 = t.1 in
      absurd (cc)

  -- the machines part at x
  parted : (f : List K) (s t : S) (x : K) (q : Option PatternKind) → steps narrow start f ≡ Ok s → step s x ≡ Ok t → (Begins Narrow (f ++ x ∷ []) → ⊥) →
      extra s x ≡ q → extra s x ≡ Some between
  parted f s t x None h e n r = absurd (n (begins (f ++ x ∷ []) t (steps_one narrow f start s x (Ok t) h (kept s x r ∙ e))))
  parted f s t x (Some k) h e n r = r ∙ ap (λ z. Some z) (broke s x k r).0

  -- where a wide word goes on and no narrow one does, the extra rule is broken, and only there
  extra_of : (f : List K) (s : S) (x : K) → steps narrow start f ≡ Ok s → Narrows Wide Narrow f x → extra s x ≡ Some between
  extra_of f s x h n =
      let t = wide_taken f s x (step s x) (all_wide start s f h) refl n.wide in
      parted f s t.0 x (extra s x) h t.1 n.narrow refl

  no_narrow : (f : List K) (s : S) (x : K) (j : PatternKind) → steps narrow start f ≡ Ok s → narrow s x ≡ Err j → Begins Narrow (f ++ x ∷ []) → ⊥
  no_narrow f s x j h e b =
      let t = takes (f ++ x ∷ []) b in
      let one : steps narrow start (f ++ x ∷ []) ≡ Err j = steps_one narrow f start s x (Err j) h e in
      let is : steps narrow start (f ++ x ∷ []) ≡ Ok t.0 = t.1 in
      absurd (cc)

  narrows_of : (f : List K) (s : S) (x : K) (j : PatternKind) → steps narrow start f ≡ Ok s → extra s x ≡ Some j → Narrows Wide Narrow f x
  narrows_of f s x j h e =
      let b = broke s x j e in
      let t = b.1 in
      let n = b.2 in
      record {
        begun = begins f s h;
        wide = reader.begins (f ++ x ∷ []) t.0 (steps_one step f start s x (Ok t.0) (all_wide start s f h) t.1);
        narrow = no_narrow f s x n.0 h n.1;
      }

  between_by : (f : List K) (x : K) (q : Result S PatternKind) → steps narrow start f ≡ q → earlier f x ≡ None → Narrows Wide Narrow f x → rule_at q f x ≡ Some between
  between_by f x (Ok s) h n w =
      ap (λ z. first_broken z (first_broken (extra s x) (later f x))) n ∙ ap (λ z. first_broken z (later f x)) (extra_of f s x h w)
  between_by f x (Err j) h n w = let t = takes f w.begun in let is : steps narrow start f ≡ Ok t.0 = t.1 in absurd (cc)

  none_extra : (f : List K) (s : S) (x : K) (q : Option PatternKind) → steps narrow start f ≡ Ok s → extra s x ≡ q → (Narrows Wide Narrow f x → ⊥) → extra s x ≡ None
  none_extra f s x None h e o = e
  none_extra f s x (Some j) h e o = absurd (o (narrows_of f s x j h e))

  after_by : (f : List K) (x : K) (k : PatternKind) (q : Result S PatternKind) → steps narrow start f ≡ q → earlier f x ≡ None → (Narrows Wide Narrow f x → ⊥) →
      later f x ≡ Some k → rule_at q f x ≡ Some k
  after_by f x k (Ok s) h n o l =
      ap (λ z. first_broken z (first_broken (extra s x) (later f x))) n ∙ ap (λ z. first_broken z (later f x)) (none_extra f s x (extra s x) h refl o) ∙ l
  after_by f x k (Err j) h n o l = ap (λ z. first_broken z (later f x)) n ∙ l

  before_by : (f : List K) (x : K) (k : PatternKind) (q : Result S PatternKind) → earlier f x ≡ Some k → rule_at q f x ≡ Some k
  before_by f x k (Ok s) e = ap (λ z. first_broken z (first_broken (extra s x) (later f x))) e
  before_by f x k (Err j) e = ap (λ z. first_broken z (later f x)) e

  pub breaks : (f : List K) (x : K) (k : PatternKind) → Breaks f x k → rule_between f x ≡ Some k
  breaks f x k (before _ e) = before_by f x k (steps narrow start f) e
  breaks f x _ (narrows n w) = between_by f x (steps narrow start f) refl n w
  breaks f x k (after _ n o l) = after_by f x k (steps narrow start f) refl n o l

  -- of no extra rule, no narrow word stops
  no_stop : (f : List K) (s : S) (x : K) → steps narrow start f ≡ Ok s → extra s x ≡ None → Narrows Wide Narrow f x → ⊥
  no_stop f s x h n w = let e = extra_of f s x h w in absurd (cc)

  inner_by : (f : List K) (x : K) (k : PatternKind) (s : S) (q : Option PatternKind) → steps narrow start f ≡ Ok s → earlier f x ≡ None → extra s x ≡ q →
      first_broken q (later f x) ≡ Some k → Breaks f x k
  inner_by f x k s None h n e r = after k n (no_stop f s x h e) r
  inner_by f x k s (Some j) h n e r =
      subst (λ (z : PatternKind). Breaks f x z) (sym (broke s x j e).0 ∙ same_kind j k r) (narrows n (narrows_of f s x j h e))

  earlier_is : (f : List K) (x : K) (j k : PatternKind) (q : Result S PatternKind) → earlier f x ≡ Some j → rule_at q f x ≡ Some k → earlier f x ≡ Some k
  earlier_is f x j k q e r = e ∙ ap (λ z. Some z) (same_kind j k (sym (before_by f x j q e) ∙ r))

  outer_by : (f : List K) (x : K) (k : PatternKind) (q : Result S PatternKind) (e : Option PatternKind) → steps narrow start f ≡ q → earlier f x ≡ e →
      rule_at q f x ≡ Some k → Breaks f x k
  outer_by f x k q (Some j) h e r = before k (earlier_is f x j k q e r)
  outer_by f x k (Ok s) None h e r =
      inner_by f x k s (extra s x) h e refl (sym (ap (λ z. first_broken z (first_broken (extra s x) (later f x))) e) ∙ r)
  outer_by f x k (Err j) None h e r =
      after k e (λ w. let t = takes f w.begun in let is : steps narrow start f ≡ Ok t.0 = t.1 in absurd (cc)) (sym (ap (λ z. first_broken z (later f x)) e) ∙ r)

  pub broken : (f : List K) (x : K) (k : PatternKind) → rule_between f x ≡ Some k → Breaks f x k
  broken f x k r = outer_by f x k (steps narrow start f) (earlier f x) refl refl r

  -- the wide machine reads the wide grammar under the rules that say where the narrow one stops
  pub between_reader : IsReader al Wide Breaks start step rule_between ended
  between_reader = record {
    word = reader.word;
    means = reader.means;
    begins = reader.begins;
    breaks = λ f s x k h b. breaks f x k b;
    broken = λ f s x k h b. broken f x k b;
    refusal = reader.refusal;
    no_end = reader.no_end;
  }
