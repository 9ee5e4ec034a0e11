-- Labelled spans in the order of their places, and the threads that go on behind them.
use Rattle.std.proofs.Common.{◌≡◌, ℕ, zero, suc, ◌+◌, ◌-◌, ◌<◌, ◌≤◌, Bool, true, false, List, [], ◌∷◌, ◌++◌, length, take, drop, map, reverse, refl, sym, ◌∙◌, ap, subst, arith, get_or, inl, inr}
use Rattle.std.specs.Prelude.{◌||◌, ◌&&◌, ◌==◌, if◌then◌else◌, bytes_eq}
use Rattle.std.proofs.lemmas.Option.{slice_get_read}
use Rattle.std.specs.List.{list_any}
use Rattle.std.proofs.lemmas.Bool.{cases_lt, eqb-true, eq-eqb, ne_eqb}
use Rattle.std.proofs.lemmas.List.{reverse-append, get_or-drop, length-drop}
use Rattle.std.proofs.lemmas.List.Folds.{list_any_at, list_any_more, list_any-append}
use Rattle.od_extraction.specs.declared.mention.Labelled.{Labelled}
use Rattle.od_machine.specs.Machine.{State, state, targets}
use Rattle.od_machine.specs.Search.{thread}
use Rattle.od_machine.specs.Spans.{names, names_at, is_entry, Lists, AreInOrder, AreFrom, Taken, Passed, Stacked}
use Rattle.od_machine.specs.declared.spans.SpanEntry.{SpanEntry}
use Rattle.od_machine.specs.declared.thread.Thread.{Thread}
use Rattle.od_matching.specs.Matching.Scan.{is_span_in}

-- where no span ends behind the first m tokens, those alone are looked at
pub targets_short : (f : ℕ → ℕ → Bool) (pc i m n : ℕ) → m ≤ n → ((k : ℕ) → m ≤ k → k < n → f i (i + suc k) ≡ false) → targets f pc i n ≡ targets f pc i m
targets_short f pc i m zero le none = ap (targets f pc i) (let q : 0 ≡ m = omega arith in q)
targets_short f pc i m (suc n) le none =
    elim (cases_lt n m) [
      | inl lt ↦ ap (targets f pc i) (let q : suc n ≡ m = omega arith in q)
      | inr ge ↦ ap (λ (b : Bool). (if b then state pc true (i + suc n) ∷ [] else []) ++ targets f pc i n) (none n ge (omega arith)) ∙ targets_short f pc i m n ge (λ k a b. none k a (omega arith))
    ]

-- where no span ends behind `reach`, those up to there are all
pub targets_all : (f : ℕ → ℕ → Bool) (pc i reach tokens : ℕ) → i ≤ reach → reach ≤ tokens → ((j : ℕ) → reach < j → j ≤ tokens → f i j ≡ false)
    → targets f pc i (tokens - i) ≡ targets f pc i (reach - i)
targets_all f pc i reach tokens h g none = targets_short f pc i (reach - i) (tokens - i) (omega arith) (λ k a b. none (i + suc k) (omega arith) (omega arith))

-- the next span that is longer comes before those
pub targets_next : (f : ℕ → ℕ → Bool) (pc i reach end : ℕ) → i ≤ reach → reach < end → f i end ≡ true → ((j : ℕ) → reach < j → j < end → f i j ≡ false)
    → targets f pc i (end - i) ≡ state pc true end ∷ targets f pc i (reach - i)
targets_next f pc i reach end h g here none =
    let n : ℕ = end - suc i in
    let whole : i + suc n ≡ end = omega arith in
    let at_end : f i (i + suc n) ≡ true = ap (f i) whole ∙ here in
    ap (targets f pc i) (let q : end - i ≡ suc n = omega arith in q)
    ∙ ap (λ (b : Bool). (if b then state pc true (i + suc n) ∷ [] else []) ++ targets f pc i n) at_end
    ∙ ap (λ z. state pc true (i + suc n) ∷ z) (targets_short f pc i (reach - i) n (omega arith) (λ k a b. none (i + suc k) (omega arith) (omega arith)))
    ∙ ap (λ (z : ℕ). state pc true z ∷ targets f pc i (reach - i)) whole

any_none : {X : Type 0} (p : X → Bool) (xs : List X) → ((k : ℕ) (d : X) → k < length xs → p (get_or xs k d) ≡ false) → list_any p xs ≡ false
any_none p [] h = refl
any_none p (x ∷ xs) h = ap (λ (b : Bool). b || list_any p xs) (h 0 x (omega arith)) ∙ any_none p xs (λ k d lt. h (suc k) d (omega arith))

any_drop : {X : Type 0} (p : X → Bool) (n : ℕ) (xs : List X) → ((k : ℕ) (d : X) → k < n → k < length xs → p (get_or xs k d) ≡ false) → list_any p (drop n xs) ≡ list_any p xs
any_drop p zero xs h = refl
any_drop p (suc n) [] h = refl
any_drop p (suc n) (x ∷ xs) h =
    any_drop p n xs (λ k d lt inside. h (suc k) d (omega arith) (omega arith)) ∙ sym (ap (λ (b : Bool). b || list_any p xs) (h 0 x (omega arith) (omega arith)))

-- the element at a place of the list, whatever stands in for one that is not there
pub same_item : {X : Type 0} (xs : List X) (k : ℕ) (d e : X) → k < length xs → get_or xs k d ≡ get_or xs k e
same_item [] k d e h = absurd (omega arith)
same_item (x ∷ xs) zero d e h = refl
same_item (x ∷ xs) (suc k) d e h = same_item xs k d e (omega arith)

first_fails : (a b c : Bool) → a ≡ false → (a && b && c) ≡ false
first_fails true b c e = absurd (let q : true ≡ false = e in cc)
first_fails false b c e = refl

second_fails : (a b c : Bool) → b ≡ false → (a && b && c) ≡ false
second_fails true true c e = absurd (let q : true ≡ false = e in cc)
second_fails true false c e = refl
second_fails false b c e = refl

third_fails : (a b c : Bool) → c ≡ false → (a && b && c) ≡ false
third_fails true true c e = e
third_fails true false c e = refl
third_fails false b c e = refl

all_pass : (a b c : Bool) → a ≡ true → b ≡ true → c ≡ true → (a && b && c) ≡ true
all_pass true true c e f g = g
all_pass true false c e f g = f
all_pass false b c e f g = e

module _ (labels : List Labelled) (name : List ℕ) (i : ℕ) where
  -- an entry that begins elsewhere
  begins_elsewhere : (j : ℕ) (e : SpanEntry) → (e.start ≡ i → ⊥) → is_entry labels name i j e ≡ false
  begins_elsewhere j e ne = second_fails (names_at labels e.number name) (e.start == i) (e.end == j) (ne_eqb e.start i ne)

  ends_elsewhere : (j : ℕ) (e : SpanEntry) → (e.end ≡ j → ⊥) → is_entry labels name i j e ≡ false
  ends_elsewhere j e ne = third_fails (names_at labels e.number name) (e.start == i) (e.end == j) (ne_eqb e.end j ne)

module _ (labels : List Labelled) (name : List ℕ) (at tokens : ℕ) (entries : List SpanEntry) where
  abbrev Passes : ℕ → ℕ → Type 0
  Passes i reach = Passed labels name at tokens entries i reach

  -- an entry that was left out is passed
  pub passed_left : (i reach : ℕ) (e : SpanEntry) → i < length entries → e ≡ get_or entries i e → (reach < e.end → e.end ≤ tokens → names_at labels e.number name ≡ false)
      → Passes i reach → Passes (i + 1) reach
  passed_left i reach e inside is left passed k d lt j far le =
      elim (cases_lt k i) [
        | inl h ↦ passed k d h j far le
        | inr h ↦
            let here : k ≡ i = omega arith in
            let same : get_or entries k d ≡ e = ap (λ (z : ℕ). get_or entries z d) here ∙ same_item entries i d e inside ∙ sym is in
            ap (is_entry labels name at j) same ∙ go (e.end == j) refl
      ]
    where
      go : (b : Bool) → (e.end == j) ≡ b → is_entry labels name at j e ≡ false
      go true q =
          let end : e.end ≡ j = eqb-true e.end j q in
          first_fails (names_at labels e.number name) (e.start == at) (e.end == j) (left (omega arith) (omega arith))
      go false q = third_fails (names_at labels e.number name) (e.start == at) (e.end == j) q

  -- and so is one that was taken
  pub passed_taken : (i reach : ℕ) (e : SpanEntry) → i < length entries → e ≡ get_or entries i e → reach < e.end → Passes i reach → Passes (i + 1) e.end
  passed_taken i reach e inside is longer passed k d lt j far le =
      elim (cases_lt k i) [
        | inl h ↦ passed k d h j (omega arith) le
        | inr h ↦
            let here : k ≡ i = omega arith in
            let same : get_or entries k d ≡ e = ap (λ (z : ℕ). get_or entries z d) here ∙ same_item entries i d e inside ∙ sym is in
            ap (is_entry labels name at j) same ∙ ends_elsewhere labels name at j e (λ q. absurd (omega arith))
      ]

  module _ (from : AreFrom labels at entries) where
    no_span : (i reach j : ℕ) → Passes i reach → reach < j → j ≤ tokens
        → ((k : ℕ) (d : SpanEntry) → i ≤ k → k < length entries → is_entry labels name at j (get_or entries k d) ≡ false) → is_span_in labels name at j ≡ false
    no_span i reach j passed far le rest =
        sym (from.spans name j) ∙ any_none (is_entry labels name at j) entries (λ k d inside. elim (cases_lt k i) [ inl h ↦ passed k d h j far le | inr h ↦ rest k d h inside ])

    -- all entries are passed
    pub none_left : (i reach j : ℕ) → length entries ≤ i → Passes i reach → reach < j → j ≤ tokens → is_span_in labels name at j ≡ false
    none_left i reach j all passed far le = no_span i reach j passed far le (λ k d ge lt. absurd (omega arith))

    -- the entries from here on begin later
    pub none_behind : (i reach : ℕ) (e : SpanEntry) → i < length entries → e ≡ get_or entries i e → (e.start ≡ at → ⊥) → (j : ℕ) → Passes i reach → reach < j → j ≤ tokens
        → is_span_in labels name at j ≡ false
    none_behind i reach e inside is ne j passed far le =
        no_span i reach j passed far le
        (λ k d ge lt.
        let low : at ≤ (get_or entries i e).start = from.starts i e inside in
        let up : (get_or entries i d).start ≤ (get_or entries k d).start = from.order.starts i k d ge lt in
        let here : (get_or entries i d).start ≡ e.start = ap (λ (z : SpanEntry). z.start) (same_item entries i d e inside ∙ sym is) in
        let here' : (get_or entries i e).start ≡ e.start = ap (λ (z : SpanEntry). z.start) (sym is) in
        begins_elsewhere labels name at j (get_or entries k d) (λ q. ne (omega arith)))

    -- no span ends between those that were taken and the entry
    pub none_between : (i reach : ℕ) (e : SpanEntry) → i < length entries → e ≡ get_or entries i e → e.start ≡ at → e.end ≤ tokens → (j : ℕ) → Passes i reach → reach < j → j < e.end
        → is_span_in labels name at j ≡ false
    none_between i reach e inside is start le j passed far before =
        no_span i reach j passed far (omega arith) (λ k d ge lt. later k d ge lt ((get_or entries k d).start == at) refl)
      where
        later : (k : ℕ) (d : SpanEntry) → i ≤ k → k < length entries → (b : Bool) → ((get_or entries k d).start == at) ≡ b → is_entry labels name at j (get_or entries k d) ≡ false
        later k d ge lt true q =
            let here : get_or entries i d ≡ e = same_item entries i d e inside ∙ sym is in
            let s : (get_or entries k d).start ≡ at = eqb-true _ _ q in
            let s' : (get_or entries i d).start ≡ (get_or entries k d).start = ap (λ (z : SpanEntry). z.start) here ∙ start ∙ sym s in
            let up : (get_or entries i d).end ≤ (get_or entries k d).end = from.order.ends i k d ge lt s' in
            let e_end : (get_or entries i d).end ≡ e.end = ap (λ (z : SpanEntry). z.end) here in
            ends_elsewhere labels name at j (get_or entries k d) (λ r. absurd (omega arith))
        later k d ge lt false q = second_fails _ _ _ q

    -- the entry is that of a span
    pub is_one : (i : ℕ) (e : SpanEntry) → i < length entries → e ≡ get_or entries i e → e.start ≡ at → names_at labels e.number name ≡ true → is_span_in labels name at e.end ≡ true
    is_one i e inside is start named =
        sym (from.spans name e.end)
        ∙ list_any_at (is_entry labels name at e.end) entries i e inside
        (ap (is_entry labels name at e.end) (sym is) ∙ all_pass _ _ _ named (eq-eqb e.start at start) (eq-eqb e.end e.end refl))

    -- once the entry is taken the stack has the spans up to its end
    pub stacked_taken : (pc events i reach next : ℕ) (e : SpanEntry) (old mid new : List Thread) → i < length entries → e ≡ get_or entries i e → e.start ≡ at → at ≤ reach
        → Passes i reach → Taken labels name tokens e reach pc events next mid new → Stacked labels name pc events at reach old mid → Stacked labels name pc events at e.end old new
    stacked_taken pc events i reach next e old mid new inside is start low passed taken before =
        let here : is_span_in labels name at e.end ≡ true = is_one i e inside is start taken.named in
        let top : targets (is_span_in labels name) pc at (e.end - at) ≡ state pc true e.end ∷ targets (is_span_in labels name) pc at (reach - at) =
        targets_next (is_span_in labels name) pc at reach e.end low taken.farther here (λ j far lt. none_between i reach e inside is start taken.within j passed far lt) in
        ap reverse taken.threads ∙ reverse-append mid (thread events (state pc true e.end) ∷ [])
        ∙ ap (λ z. thread events (state pc true e.end) ∷ z) before
        ∙ ap (λ (z : List State). map (thread events) z ++ reverse old) (sym top)

-- behind the entries that begin before a token stand those from it on
pub from_first : (labels : List Labelled) (at first : ℕ) (entries : List SpanEntry) → AreInOrder entries → Lists labels entries
    → ((k : ℕ) (d : SpanEntry) → k < first → (get_or entries k d).start < at) → ((k : ℕ) (d : SpanEntry) → first ≤ k → k < length entries → at ≤ (get_or entries k d).start)
    → AreFrom labels at (drop first entries)
from_first labels at first entries order lists low high = record {
  spans = λ name j.
      any_drop (is_entry labels name at j) first entries (λ k d lt inside. begins_elsewhere labels name at j (get_or entries k d) (λ q. let r : (get_or entries k d).start < at = low k d lt in absurd (omega arith)))
      ∙ lists name at j;
  starts = λ k d lt.
      let g : get_or (drop first entries) k d ≡ get_or entries (first + k) d = get_or-drop first entries k d in
      let h : at ≤ (get_or entries (first + k) d).start = high (first + k) d (omega arith) (omega (arith, length-drop first entries)) in
      subst (λ (z : SpanEntry). at ≤ z.start) (sym g) h;
  order = record {
    starts = λ i j d le lt.
        subst (λ (z : SpanEntry). z.start ≤ (get_or (drop first entries) j d).start) (sym (get_or-drop first entries i d))
        (subst (λ (z : SpanEntry). (get_or entries (first + i) d).start ≤ z.start) (sym (get_or-drop first entries j d))
        (order.starts (first + i) (first + j) d (omega arith) (omega (arith, length-drop first entries))));
    ends = λ i j d le lt.
        subst (λ (z : SpanEntry). z.start ≡ (get_or (drop first entries) j d).start → z.end ≤ (get_or (drop first entries) j d).end) (sym (get_or-drop first entries i d))
        (subst (λ (z : SpanEntry). (get_or entries (first + i) d).start ≡ z.start → (get_or entries (first + i) d).end ≤ z.end) (sym (get_or-drop first entries j d))
        (order.ends (first + i) (first + j) d (omega arith) (omega (arith, length-drop first entries))));
  };
}

-- one labelled span more is listed
pub listed_more : (labels : List Labelled) (entries : List SpanEntry) (n : ℕ) (l : Labelled) → n < length labels → l ≡ get_or labels n l
    → ((name : List ℕ) (i j : ℕ) → list_any (is_entry labels name i j) entries ≡ is_span_in (take n labels) name i j)
    → (name : List ℕ) (i j : ℕ)
    → list_any (is_entry labels name i j) (entries ++ (record { start = l.span.start; end = l.span.end; number = n }) ∷ []) ≡ is_span_in (take (n + 1) labels) name i j
listed_more labels entries n l lt is before name i j =
    let x : SpanEntry = record { start = l.span.start; end = l.span.end; number = n } in
    let p : SpanEntry → Bool = is_entry labels name i j in
    let q : Labelled → Bool = λ z. bytes_eq z.label name && (z.span.start == i) && (z.span.end == j) in
    let named : names_at labels n name ≡ bytes_eq l.label name = ap (λ z. names z name) (slice_get_read labels (length labels) n l refl lt is) in
    let same : p x ≡ q (get_or labels n l) = ap (λ (b : Bool). b && (l.span.start == i) && (l.span.end == j)) named ∙ ap q is in
    list_any-append p entries (x ∷ [])
    ∙ ap (λ (b : Bool). b || (p x || false)) (before name i j)
    ∙ ap (λ (b : Bool). list_any q (take n labels) || b) (or-false (p x) ∙ same)
    ∙ sym (list_any_more q labels n l lt)
  where
    or-false : (b : Bool) → (b || false) ≡ b
    or-false true = refl
    or-false false = refl

-- neighbours with one start that rise by their ends
pub ends_rise : (entries : List SpanEntry)
    → ((i j : ℕ) (d : SpanEntry) → i ≤ j → j < length entries → (get_or entries i d).start ≤ (get_or entries j d).start)
    → ((k : ℕ) (d : SpanEntry) → k + 1 < length entries → (get_or entries k d).start ≡ (get_or entries (k + 1) d).start → (get_or entries k d).end ≤ (get_or entries (k + 1) d).end)
    → (n i : ℕ) (d : SpanEntry) → i + n < length entries → (get_or entries i d).start ≡ (get_or entries (i + n) d).start → (get_or entries i d).end ≤ (get_or entries (i + n) d).end
ends_rise entries starts next zero i d lt same = let q : i + 0 ≡ i = omega arith in subst (λ (z : ℕ). (get_or entries i d).end ≤ (get_or entries z d).end) (sym q) (omega arith)
ends_rise entries starts next (suc n) i d lt same =
    let a : (get_or entries i d).start ≤ (get_or entries (i + n) d).start = starts i (i + n) d (omega arith) (omega arith) in
    let b : (get_or entries (i + n) d).start ≤ (get_or entries (i + n + 1) d).start = starts (i + n) (i + n + 1) d (omega arith) (omega arith) in
    let q : i + suc n ≡ i + n + 1 = omega arith in
    let s : (get_or entries i d).start ≡ (get_or entries (i + n + 1) d).start = same ∙ ap (λ (z : ℕ). (get_or entries z d).start) q in
    let below : (get_or entries i d).end ≤ (get_or entries (i + n) d).end = ends_rise entries starts next n i d (omega arith) (omega arith) in
    let above : (get_or entries (i + n) d).end ≤ (get_or entries (i + n + 1) d).end = next (i + n) d (omega arith) (omega arith) in
    subst (λ (z : ℕ). (get_or entries i d).end ≤ (get_or entries z d).end) (sym q) (omega arith)

pub in_order : (entries : List SpanEntry)
    → ((i j : ℕ) (d : SpanEntry) → i ≤ j → j < length entries → (get_or entries i d).start ≤ (get_or entries j d).start)
    → ((k : ℕ) (d : SpanEntry) → k + 1 < length entries → (get_or entries k d).start ≡ (get_or entries (k + 1) d).start → (get_or entries k d).end ≤ (get_or entries (k + 1) d).end)
    → AreInOrder entries
in_order entries starts next = record {
  starts = starts;
  ends = λ i j d le lt same.
      let n : ℕ = j - i in
      let q : i + n ≡ j = omega arith in
      let s : (get_or entries i d).start ≡ (get_or entries (i + n) d).start = same ∙ ap (λ (z : ℕ). (get_or entries z d).start) (sym q) in
      subst (λ (z : ℕ). (get_or entries i d).end ≤ (get_or entries z d).end) q (ends_rise entries starts next n i d (omega arith) s);
}
