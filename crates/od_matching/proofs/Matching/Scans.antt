-- There is at most one best derivation, and the matches that are computed are the scan.
use Rattle.std.proofs.Common.{◌≡◌, ℕ, zero, suc, ◌+◌, ◌<◌, ◌≤◌, Bool, true, false, List, [], ◌∷◌, ◌++◌, refl, sym, ◌∙◌, ap, subst, inl, inr, arith}
use Rattle.std.proofs.lemmas.List.{append-nil}
use Rattle.std.proofs.lemmas.Bool.{cases_lt, ltb-true, ltb-false}
use Rattle.std.specs.Prelude.{Option, Some, None, nat_lt, if◌then◌else◌, length}
use Rattle.od_matching.specs.Matching.Choice.{Before}
use Rattle.od_matching.specs.Matching.First.{Ending, accept, add}
use Rattle.od_matching.specs.Matching.Derives.{World, derives, first}
use Rattle.od_matching.specs.Matching.Scan.{IsBest, NoMatchAt, IsNext, Scans, match_of, take_or_go, scan_from, scan_of, world_in}
use Rattle.od_matching.proofs.Matching.Unambiguous.{Same}
use Rattle.od_matching.proofs.Matching.Preferred as preferred
use Rattle.od_matching.proofs.Matching.Derived.{unambiguous, within, firsts}
use Rattle.od_document.specs.declared.sentence.Sentence.{Sentence}
use Rattle.od_extraction.specs.declared.mention.Labelled.{Labelled}
use Rattle.od_pattern.specs.declared.pattern.Surface.{Surface}
use Rattle.od_extraction.specs.declared.mention.Part.{Part}
use Rattle.od_extraction.specs.declared.mention.Match.{Match}

-- where nothing follows, a way ends where it is
accept_some : (j : ℕ) (o : Ending) → accept j ≡ Some o → o ≡ record { end = j; captures = []; ends = [] }
accept_some j o e = cc

accept_none : (j : ℕ) → accept j ≡ None → ⊥
accept_none j e = cc

-- the way that is computed is the best derivation
pub best_of : (w : World) (p : Surface) (i : ℕ) (o : Ending) → i ≤ w.length → first w p accept i ≡ Some o → IsBest w p i o.end o.captures
best_of w p i o h e =
    let b : preferred.Preferred (derives w p) accept i o = subst (preferred.IsFirst (derives w p) accept i) e (firsts w p accept i h) in
    let r : b.rest ≡ record { end = b.end; captures = []; ends = [] } = accept_some b.end b.rest b.on in
    let whole : o ≡ record { end = b.end; captures = b.captures ++ []; ends = [] } = b.whole ∙ ap (add b.captures) r in
    let end : b.end ≡ o.end = sym (ap (λ (z : Ending). z.end) whole) in
    let captures : b.captures ≡ o.captures = sym (append-nil b.captures) ∙ sym (ap (λ (z : Ending). z.captures) whole) in
    record {
      choices = b.choices;
      goes = subst (λ (z : ℕ). derives w p i z o.captures b.choices) end (subst (λ (z : List Part). derives w p i b.end z b.choices) captures b.goes);
      least = λ j c t d q. accept_none j (b.least j c t d q);
    }

-- where none is computed there is no derivation
pub none_of : (w : World) (p : Surface) (i : ℕ) → i ≤ w.length → first w p accept i ≡ None → (j : ℕ) (c : List Part) (t : List ℕ) → derives w p i j c t → ⊥
none_of w p i h e j c t d =
    let g : preferred.IsFirst (derives w p) accept i None = subst (preferred.IsFirst (derives w p) accept i) e (firsts w p accept i h) in
    accept_none j (g j c t d)

-- so where there is a derivation there is a best one
pub best_exists : (w : World) (p : Surface) (i j : ℕ) (c : List Part) (t : List ℕ) → i ≤ w.length → derives w p i j c t
    → (j' : ℕ) × (c' : List Part) × IsBest w p i j' c'
best_exists w p i j c t h d = told (first w p accept i) refl
  where
    told : (o : Option Ending) → first w p accept i ≡ o → (j' : ℕ) × (c' : List Part) × IsBest w p i j' c'
    told None e = absurd (none_of w p i h e j c t d)
    told (Some o) e = (o.end, o.captures, best_of w p i o h e)

-- one of two lists comes first, or they are the same
before_total : (s t : List ℕ) → (Before s t → ⊥) → (Before t s → ⊥) → s ≡ t
before_total [] [] h g = refl
before_total [] (y ∷ t) h g = absurd (h tt)
before_total (x ∷ s) [] h g = absurd (g tt)
before_total (x ∷ s) (y ∷ t) h g =
    elim (cases_lt x y) [
      | inl lt ↦ absurd (h (inl lt))
      | inr le ↦
          elim (cases_lt y x) [
            | inl lt ↦ absurd (g (inl lt))
            | inr ge ↦
                let e : x ≡ y = omega arith in
                let r : s ≡ t = before_total s t (λ q. h (inr (e, q))) (λ q. g (inr (sym e, q))) in
                cc
          ]
    ]

-- there is at most one best way
pub one_best : (w : World) (p : Surface) (i j j' : ℕ) (c c' : List Part) → IsBest w p i j c → IsBest w p i j' c' → (j ≡ j') × (c ≡ c')
one_best w p i j j' c c' b b' =
    let e : b.choices ≡ b'.choices = before_total b.choices b'.choices (λ q. b'.least j c b.choices b.goes q) (λ q. b.least j' c' b'.choices b'.goes q) in
    let s : Same j j' c c' b.choices b'.choices [] [] = unambiguous w p i i j j' c c' b.choices b'.choices [] [] refl b.goes b'.goes (ap (λ (z : List ℕ). z ++ []) e) in
    (s.ends, s.captures)

-- where none is computed no match begins
pub idle_none : (w : World) (p : Surface) (i : ℕ) → i ≤ w.length → first w p accept i ≡ None → NoMatchAt w p i
idle_none w p i h e j c b = absurd (none_of w p i h e j c b.choices b.goes)

-- where the one that is computed takes no token no match begins
pub idle_empty : (w : World) (p : Surface) (i : ℕ) (o : Ending) → i ≤ w.length → first w p accept i ≡ Some o → o.end ≤ i → NoMatchAt w p i
idle_empty w p i o h e le j c b = let s = one_best w p i j o.end c o.captures b (best_of w p i o h e) in let q : j ≡ o.end = s.0 in omega arith

-- a place where no match begins may be passed by
pub scan_idle : (w : World) (p : Surface) (i : ℕ) (ms : List Match) → NoMatchAt w p i → Scans w p (i + 1) ms → Scans w p i ms
scan_idle w p i [] idle s = λ k le lt.
    elim (cases_lt i k) [ inl h ↦ s k (omega arith) lt | inr h ↦ let e : i ≡ k = omega arith in subst (NoMatchAt w p) e idle ]
scan_idle w p i (m ∷ ms) idle (next, rest) = (
  record {
    from = let le : i + 1 ≤ m.span.start = next.from in omega arith;
    inside = next.inside;
    takes = next.takes;
    none_before = λ k le lt. elim (cases_lt i k) [ inl h ↦ next.none_before k (omega arith) lt | inr h ↦ let e : i ≡ k = omega arith in subst (NoMatchAt w p) e idle ];
    best = next.best;
  },
  rest,
)

-- a match, and the matches behind it
pub scan_match : (w : World) (p : Surface) (i : ℕ) (o : Ending) (ms : List Match) → i ≤ w.length → first w p accept i ≡ Some o → i < o.end → Scans w p o.end ms
    → Scans w p i (match_of i o.end o.captures ∷ ms)
scan_match w p i o ms h e lt s =
    let b = best_of w p i o h e in
    let in_reach : o.end ≤ w.length = (within w p i o.end o.captures b.choices h b.goes).1 in
    (record { from = omega arith; inside = omega arith; takes = lt; none_before = λ k le lt'. absurd (omega arith); best = b }, s)

-- behind the last token there is nothing
pub scan_end : (w : World) (p : Surface) (i : ℕ) → w.length ≤ i → Scans w p i []
scan_end w p i h k le lt = absurd (omega arith)

-- equal choices give an equal end and equal captures
pub same_choices : (w : World) (p : Surface) (i j j' : ℕ) (c c' : List Part) (t : List ℕ) → derives w p i j c t → derives w p i j' c' t → (j ≡ j') × (c ≡ c')
same_choices w p i j j' c c' t d d' = let s : Same j j' c c' t t [] [] = unambiguous w p i i j j' c c' t t [] [] refl d d' refl in (s.ends, s.captures)

-- and no list of choices is a proper prefix of another's
pub no_front : (w : World) (p : Surface) (i j j' : ℕ) (c c' : List Part) (t u : List ℕ) → derives w p i j c t → derives w p i j' c' (t ++ u) → u ≡ []
no_front w p i j j' c c' t u d d' =
    let s : Same j j' c c' t (t ++ u) u [] = unambiguous w p i i j j' c c' t (t ++ u) u [] refl d d' (sym (append-nil (t ++ u))) in
    s.rest

module _ (w : World) (p : Surface) where
  best_within : (i j : ℕ) (c : List Part) → i ≤ w.length → IsBest w p i j c → j ≤ w.length
  best_within i j c h b = (within w p i j c b.choices h b.goes).1

  module _ (on : ℕ → List Match) (i : ℕ) (lt : i < w.length) (rest : (j : ℕ) → i < j → j ≤ w.length → Scans w p j (on j)) where
    -- by whether the way takes a token
    longer : (o : Ending) (b : Bool) → first w p accept i ≡ Some o → nat_lt i o.end ≡ b
        → Scans w p i (if b then match_of i o.end o.captures ∷ on o.end else on (i + 1))
    longer o true e t =
        let h : i ≤ w.length = omega arith in
        let further : i < o.end = ltb-true i o.end t in
        scan_match w p i o (on o.end) h e further (rest o.end further (best_within i o.end o.captures h (best_of w p i o h e)))
    longer o false e t =
        let h : i ≤ w.length = omega arith in
        scan_idle w p i (on (i + 1)) (idle_empty w p i o h e (ltb-false i o.end t)) (rest (i + 1) (omega arith) (omega arith))

    -- by whether there is a way
    told : (o : Option Ending) → first w p accept i ≡ o → Scans w p i (take_or_go on i o)
    told None e = scan_idle w p i (on (i + 1)) (let h : i ≤ w.length = omega arith in idle_none w p i h e) (rest (i + 1) (omega arith) (omega arith))
    told (Some o) e = longer o (nat_lt i o.end) e refl

  -- by whether the place is within the sentence
  inside : (on : ℕ → List Match) (i : ℕ) (b : Bool) → nat_lt i w.length ≡ b → ((j : ℕ) → i < j → j ≤ w.length → Scans w p j (on j))
      → Scans w p i (if b then take_or_go on i (first w p accept i) else [])
  inside on i true e rest = told on i (ltb-true i w.length e) rest (first w p accept i) refl
  inside on i false e rest = scan_end w p i (ltb-false i w.length e)

  -- with enough places to look at, the list that is computed is the list of matches
  pub scans_from : (n i : ℕ) → w.length ≤ i + n → Scans w p i (scan_from w p n i)
  unfolding scan_from
  scans_from zero i h = scan_end w p i (omega arith)
  scans_from (suc n) i h = inside (scan_from w p n) i (nat_lt i w.length) refl (λ j lt le. scans_from n j (omega arith))

-- the list that is computed is the scan
pub scans_of : (p : Surface) (s : Sentence) (m : List Labelled) → Scans (world_in s m) p 0 (scan_of p s m)
unfolding scan_of
scans_of p s m = scans_from (world_in s m) p (length s.tokens) 0 (omega arith)

-- a match where none begins is none
no_match : (w : World) (p : Surface) (m : Match) (i : ℕ) → IsNext w p i m → NoMatchAt w p m.span.start → ⊥
no_match w p m i next idle =
    let h : m.span.end ≤ m.span.start = idle m.span.end m.captures next.best in
    let l : m.span.start < m.span.end = next.takes in
    omega arith

-- two next matches from one place are the same
same_next : (w : World) (p : Surface) (i : ℕ) (m n : Match) → IsNext w p i m → IsNext w p i n → m ≡ n
same_next w p i m n a b =
    elim (cases_lt m.span.start n.span.start) [
      | inl lt ↦ absurd (no_match w p m i a (b.none_before m.span.start a.from lt))
      | inr ge ↦
          elim (cases_lt n.span.start m.span.start) [
            | inl lt ↦ absurd (no_match w p n i b (a.none_before n.span.start b.from lt))
            | inr le ↦
                let start : n.span.start ≡ m.span.start = omega arith in
                let e = one_best w p m.span.start m.span.end n.span.end m.captures n.captures a.best (subst (λ (z : ℕ). IsBest w p z n.span.end n.captures) start b.best) in
                ap (λ (z : ℕ). match_of z m.span.end m.captures) (sym start) ∙ ap (λ (z : ℕ). match_of n.span.start z m.captures) e.0 ∙ ap (match_of n.span.start n.span.end) e.1
          ]
    ]

-- there is no other list
pub same_scans : (w : World) (p : Surface) (i : ℕ) (a b : List Match) → Scans w p i a → Scans w p i b → a ≡ b
same_scans w p i [] [] sa sb = refl
same_scans w p i [] (n ∷ b) sa (next, rest) = absurd (no_match w p n i next (sa n.span.start next.from next.inside))
same_scans w p i (m ∷ a) [] (next, rest) sb = absurd (no_match w p m i next (sb m.span.start next.from next.inside))
same_scans w p i (m ∷ a) (n ∷ b) (next, rest) (next', rest') =
    let head : m ≡ n = same_next w p i m n next next' in
    let tail : a ≡ b = same_scans w p m.span.end a b rest (subst (λ (z : Match). Scans w p z.span.end b) (sym head) rest') in
    ap (λ (z : Match). z ∷ a) head ∙ ap (λ (z : List Match). n ∷ z) tail
