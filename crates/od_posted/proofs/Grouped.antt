-- The entries of sentences, grouped by their numbers, are posting lists.
use Rattle.std.proofs.Common.{◌≡◌, ℕ, suc, ◌+◌, ◌<◌, Bool, true, false, cond, List, [], ◌∷◌, ◌++◌, length, map, filter, fold, flat_map, refl, sym, ◌∙◌, ap, ap₂, subst, arith, inl, inr, append-nil, append_assoc}
use Rattle.std.proofs.lemmas.Bool.{eq-eqb, ne_eqb, eqb-true, and_parts, and_from}
use Rattle.std.proofs.lemmas.List.{map-append}
use Rattle.std.proofs.lemmas.List.Elements.{filter-append}
use Rattle.std.proofs.lemmas.List.Sums.{fold-append}
use Rattle.std.proofs.lemmas.Slice.Eq.{bytes_eq-Decides}
use Rattle.std.specs.Prelude.{◌==◌, ◌&&◌, ◌||◌, ◌⊎◌, Option, Some, None, slice_get}
use Rattle.std.specs.List.{enumerate_from, list_any, range_with_len}
use Rattle.od_text.specs.Lists.{Each}
use Rattle.od_document.specs.declared.sentence.Sentence.{Sentence}
use Rattle.od_document.specs.declared.token.Token.{Token}
use Rattle.od_group.specs.Groups.{ends_with, pushed, group_of}
use Rattle.od_index.proofs.Orders.{one-place}
use Rattle.od_index.proofs.Tables.{same-place, terms-exact}
use Rattle.od_index.specs.Postings.{Posting, postings, postings_in, stands_at}
use Rattle.od_index.specs.Tables.{IsAscending, same_term, term_cmp, field_place}
use Rattle.od_index.specs.Terms.{Term, terms_at}
use Rattle.od_pattern.specs.declared.pattern.Field.{Field}
use Rattle.od_posted.specs.Entries.{Mark, marks_of, marks_at, marks_in, sentence_marks, token_marks}
use Rattle.od_posted.specs.Laws.{GroupsArePostings}

-- ## Pairs one after another

-- all are before a token of a sentence
abbrev IsLow : ℕ → ℕ → List (ℕ × ℕ) → Type 0
IsLow n k acc = Each (λ (q : ℕ × ℕ). (q.0 < n) ⊎ ((q.0 ≡ n) × (q.1 < k))) acc

and-none : (b : Bool) → (b && false) ≡ false
and-none true = refl
and-none false = refl

low-one : (n k : ℕ) (q : ℕ × ℕ) → (q.0 < n) ⊎ ((q.0 ≡ n) × (q.1 < k)) → (q.0 == n && q.1 == k) ≡ false
low-one n k q (inl lt) = ap (λ b. b && (q.1 == k)) (ne_eqb q.0 n (λ e. omega (arith, e, lt)))
low-one n k q (inr h) = ap (λ b. (q.0 == n) && b) (ne_eqb q.1 k (λ e. omega (arith, e, h.1))) ∙ and-none (q.0 == n)

low-ends : (n k : ℕ) (acc : List (ℕ × ℕ)) → IsLow n k acc → ends_with acc (n, k) ≡ false
low-ends n k [] h = refl
low-ends n k (q ∷ []) h = low-one n k q h.0
low-ends n k (q ∷ r ∷ rest) h = low-ends n k (r ∷ rest) h.1

pushed-low : (n k : ℕ) (acc : List (ℕ × ℕ)) → IsLow n k acc → pushed acc (n, k) ≡ acc ++ (n, k) ∷ []
pushed-low n k acc h = ap (λ b. cond b acc (acc ++ (n, k) ∷ [])) (low-ends n k acc h)

ends-pushed : (acc : List (ℕ × ℕ)) (p : ℕ × ℕ) → ends_with (acc ++ p ∷ []) p ≡ true
ends-pushed [] p = and_from _ _ (eq-eqb p.0 p.0 refl) (eq-eqb p.1 p.1 refl)
ends-pushed (q ∷ []) p = ends-pushed [] p
ends-pushed (q ∷ r ∷ rest) p = ends-pushed (r ∷ rest) p

pushed-twice : (acc : List (ℕ × ℕ)) (p : ℕ × ℕ) → pushed (pushed acc p) p ≡ pushed acc p
pushed-twice acc p = by (ends_with acc p) refl
  where
    by : (b : Bool) → ends_with acc p ≡ b → pushed (pushed acc p) p ≡ pushed acc p
    by true e = let stays : pushed acc p ≡ acc = ap (λ b. cond b acc (acc ++ p ∷ [])) e in ap (λ (a : List (ℕ × ℕ)). pushed a p) stays
    by false e =
        let more : pushed acc p ≡ acc ++ p ∷ [] = ap (λ b. cond b acc (acc ++ p ∷ [])) e in
        ap (λ (a : List (ℕ × ℕ)). pushed a p) more
        ∙ ap (λ b. cond b (acc ++ p ∷ []) ((acc ++ p ∷ []) ++ p ∷ [])) (ends-pushed acc p)
        ∙ sym more

-- the pairs of the entries with a number
abbrev picked : ℕ → List (ℕ × Posting) → List Posting
picked m es = map (λ (e : ℕ × Posting). e.1) (filter (λ (e : ℕ × Posting). e.0 == m) es)

-- a term is this one
abbrev is_term : Term → Option Term → Bool
is_term term None = false
is_term term (Some t) = same_term term t

-- the places at which a term stands
abbrev chosen : Term → List Mark → List Posting
chosen term ms = map (λ (w : Mark). w.1) (filter (λ (w : Mark). is_term term w.0) ms)

chosen-append : (term : Term) (xs ys : List Mark) → chosen term (xs ++ ys) ≡ chosen term xs ++ chosen term ys
chosen-append term xs ys =
    ap (map (λ (w : Mark). w.1)) (filter-append (λ (w : Mark). is_term term w.0) xs ys)
    ∙ map-append (λ (w : Mark). w.1) (filter (λ (w : Mark). is_term term w.0) xs) (filter (λ (w : Mark). is_term term w.0) ys)

-- ## A token

same-truth : (a b : Bool) → (a ≡ true → b ≡ true) → (b ≡ true → a ≡ true) → a ≡ b
same-truth true b h k = sym (h refl)
same-truth false true h k = absurd (let q : false ≡ true = k refl in cc)
same-truth false false h k = refl

same-terms : (a b : Term) → same_term a b ≡ true → a ≡ b
same-terms a b e =
    let both = and_parts _ _ e in
    let fields : a.0 ≡ b.0 = same-place a.0 b.0 (eqb-true _ _ both.0) in
    let texts : a.1 ≡ b.1 = (bytes_eq-Decides a.1 b.1).0 both.1 in
    ap (λ (f : Field). (f, a.1)) fields ∙ ap (λ (t : List ℕ). (b.0, t)) texts

term-itself : (a : Term) → same_term a a ≡ true
term-itself a = and_from _ _ (eq-eqb (field_place a.0) (field_place a.0) refl) ((bytes_eq-Decides a.1 a.1).1 refl)

module _ (term : Term) where
  -- the terms at a token add its pair once, where the term is among them
  row-group : (n k : ℕ) (ts : List Term) (acc : List (ℕ × ℕ)) → fold pushed acc (chosen term (marks_at (n, k) ts)) ≡ cond (list_any (same_term term) ts) (pushed acc (n, k)) acc
  row-group n k [] acc = refl
  row-group n k (x ∷ ts) acc = step (same_term term x) (row-group n k ts (pushed acc (n, k))) (row-group n k ts acc)
    where
      same : (d : Bool) → cond d (pushed (pushed acc (n, k)) (n, k)) (pushed acc (n, k)) ≡ pushed acc (n, k)
      same true = pushed-twice acc (n, k)
      same false = refl

      told : Bool
      told = list_any (same_term term) ts

      step : (b : Bool) → fold pushed (pushed acc (n, k)) (chosen term (marks_at (n, k) ts)) ≡ cond told (pushed (pushed acc (n, k)) (n, k)) (pushed acc (n, k))
          → fold pushed acc (chosen term (marks_at (n, k) ts)) ≡ cond told (pushed acc (n, k)) acc
          → fold pushed acc (map (λ (w : Mark). w.1) (cond b ((Some x, (n, k)) ∷ filter (λ (w : Mark). is_term term w.0) (marks_at (n, k) ts)) (filter (λ (w : Mark). is_term term w.0) (marks_at (n, k) ts))))
          ≡ cond (b || list_any (same_term term) ts) (pushed acc (n, k)) acc
      step true h g = h ∙ same told
      step false h g = g

  -- ## A sentence

  weaker : (n k : ℕ) (acc : List (ℕ × ℕ)) → IsLow n k acc → IsLow n (k + 1) acc
  weaker n k [] h = tt
  weaker n k (q ∷ acc) h = (one h.0, weaker n k acc h.1)
    where
      one : (q.0 < n) ⊎ ((q.0 ≡ n) × (q.1 < k)) → (q.0 < n) ⊎ ((q.0 ≡ n) × (q.1 < k + 1))
      one (inl lt) = inl lt
      one (inr e) = let lt : q.1 < k + 1 = omega (arith, e.1) in inr (e.0, lt)

  low-more : (n k : ℕ) (acc : List (ℕ × ℕ)) → IsLow n k acc → IsLow n (k + 1) (acc ++ (n, k) ∷ [])
  low-more n k [] h = let lt : k < k + 1 = omega arith in (inr (refl, lt), tt)
  low-more n k (q ∷ acc) h = ((weaker n k (q ∷ acc) h).0, low-more n k acc h.1)

  sentence-group : (s : Sentence) (n k : ℕ) (ts : List Token) (acc : List (ℕ × ℕ)) → IsLow n k acc
      → fold pushed acc (chosen term (flat_map (token_marks n s) (enumerate_from k ts))) ≡ acc ++ map (λ (t : ℕ × Token). (n, t.0)) (filter (stands_at term s) (enumerate_from k ts))
  sentence-group s n k [] acc low = sym (append-nil acc)
  sentence-group s n k (t ∷ ts) acc low =
      ap (fold pushed acc) (chosen-append term (token_marks n s (k, t)) after)
      ∙ fold-append pushed acc (chosen term (token_marks n s (k, t))) (chosen term after)
      ∙ ap (λ (a : List (ℕ × ℕ)). fold pushed a (chosen term after)) (row-group n k (terms_at s (k, t)) acc)
      ∙ step (stands_at term s (k, t)) (λ (a : List (ℕ × ℕ)) (l : IsLow n (k + 1) a). sentence-group s n (k + 1) ts a l)
    where
      after : List Mark
      after = flat_map (token_marks n s) (enumerate_from (k + 1) ts)

      rest : List (ℕ × ℕ)
      rest = map (λ (u : ℕ × Token). (n, u.0)) (filter (stands_at term s) (enumerate_from (k + 1) ts))

      step : (b : Bool) → ((a : List (ℕ × ℕ)) → IsLow n (k + 1) a → fold pushed a (chosen term after) ≡ a ++ rest)
          → fold pushed (cond b (pushed acc (n, k)) acc) (chosen term after)
          ≡ acc ++ map (λ (u : ℕ × Token). (n, u.0)) (cond b ((k, t) ∷ filter (stands_at term s) (enumerate_from (k + 1) ts)) (filter (stands_at term s) (enumerate_from (k + 1) ts)))
      step true next =
          ap (λ (a : List (ℕ × ℕ)). fold pushed a (chosen term after)) (pushed-low n k acc low)
          ∙ next (acc ++ (n, k) ∷ []) (low-more n k acc low)
          ∙ append_assoc acc ((n, k) ∷ []) rest
      step false next = next acc (weaker n k acc low)

  -- ## Sentences

  low-next : (n : ℕ) (acc : List (ℕ × ℕ)) → IsLow n 0 acc → IsLow (n + 1) 0 acc
  low-next n [] h = tt
  low-next n (q ∷ acc) h = (one h.0, low-next n acc h.1)
    where
      one : (q.0 < n) ⊎ ((q.0 ≡ n) × (q.1 < 0)) → (q.0 < n + 1) ⊎ ((q.0 ≡ n + 1) × (q.1 < 0))
      one (inl lt) = let l : q.0 < n + 1 = omega (arith, lt) in inl l
      one (inr e) = let l : q.0 < n + 1 = omega (arith, e.0) in inl l

  low-tokens : (n : ℕ) (ts : List (ℕ × Token)) → IsLow (n + 1) 0 (map (λ (t : ℕ × Token). (n, t.0)) ts)
  low-tokens n [] = tt
  low-tokens n (t ∷ ts) = let l : n < n + 1 = omega arith in (inl l, low-tokens n ts)

  low-both : (n : ℕ) (xs ys : List (ℕ × ℕ)) → IsLow n 0 xs → IsLow n 0 ys → IsLow n 0 (xs ++ ys)
  low-both n [] ys h g = g
  low-both n (x ∷ xs) ys h g = (h.0, low-both n xs ys h.1 g)

  sentences-group : (n : ℕ) (ss : List Sentence) (acc : List (ℕ × ℕ)) → IsLow n 0 acc
      → fold pushed acc (chosen term (flat_map sentence_marks (enumerate_from n ss))) ≡ acc ++ flat_map (postings_in term) (enumerate_from n ss)
  sentences-group n [] acc low = sym (append-nil acc)
  sentences-group n (s ∷ ss) acc low =
      let here' : List (ℕ × ℕ) = postings_in term (n, s) in
      let after : List Mark = flat_map sentence_marks (enumerate_from (n + 1) ss) in
      ap (fold pushed acc) (chosen-append term (sentence_marks (n, s)) after)
      ∙ fold-append pushed acc (chosen term (sentence_marks (n, s))) (chosen term after)
      ∙ ap (λ (a : List (ℕ × ℕ)). fold pushed a (chosen term after)) (sentence-group s n 0 s.tokens acc low)
      ∙ sentences-group (n + 1) ss (acc ++ here')
      (low-both (n + 1) acc here' (low-next n acc low) (low-tokens n (filter (stands_at term s) (enumerate_from 0 s.tokens))))
      ∙ append_assoc acc here' (flat_map (postings_in term) (enumerate_from (n + 1) ss))

  pub marks-group : (ss : List Sentence) → fold pushed [] (chosen term (marks_in ss)) ≡ postings term ss
  marks-group ss = sentences-group 0 ss [] tt

-- the pairs with a number are those at which its term stands
module _ (table : List Term) (ascends : IsAscending table) (m : ℕ) (term : Term) (here : slice_get table m ≡ Some term) where
  some : (a b : Term) → Some a ≡ Some b → a ≡ b
  some a b e = cc

  one : (n : ℕ) (o : Option Term) → slice_get table n ≡ o → (n == m) ≡ is_term term o
  one n None at = ne_eqb n m (λ e. let q : Some term ≡ None = sym here ∙ ap (slice_get table) (sym e) ∙ at in absurd (cc))
  one n (Some t) at =
      same-truth (n == m) (same_term term t)
      (λ e.
      let here' : n ≡ m = eqb-true n m e in
      let is : term ≡ t = some term t (sym here ∙ ap (slice_get table) (sym here') ∙ at) in
      subst (λ (u : Term). same_term term u ≡ true) is (term-itself term)
      )
      (λ e.
      let is : term ≡ t = same-terms term t e in
      eq-eqb n m (one-place term_cmp terms-exact table n m term ascends (at ∙ ap Some (sym is)) here)
      )

  pub picked-chosen : (es : List (ℕ × Posting)) → picked m es ≡ chosen term (marks_of table es)
  picked-chosen [] = refl
  picked-chosen (e ∷ es) = by (e.0 == m) (is_term term (slice_get table e.0)) (one e.0 (slice_get table e.0) refl) (picked-chosen es)
    where
      by : (a b : Bool) → a ≡ b → picked m es ≡ chosen term (marks_of table es)
          → map (λ (x : ℕ × Posting). x.1) (cond a (e ∷ filter (λ (x : ℕ × Posting). x.0 == m) es) (filter (λ (x : ℕ × Posting). x.0 == m) es))
          ≡ map (λ (w : Mark). w.1) (cond b ((slice_get table e.0, e.1) ∷ filter (λ (w : Mark). is_term term w.0) (marks_of table es)) (filter (λ (w : Mark). is_term term w.0) (marks_of table es)))
      by true true q h = ap (λ ps. e.1 ∷ ps) h
      by false false q h = h
      by true false q h = absurd (cc)
      by false true q h = absurd (cc)

-- ## All numbers

by-numbers : {X : Type 0} (f : ℕ → X) (g : Term → X) (from : ℕ) (ts : List Term) → ((k : ℕ) (t : Term) → slice_get ts k ≡ Some t → f (from + k) ≡ g t)
    → map f (range_with_len from (length ts)) ≡ map g ts
by-numbers f g from [] h = refl
by-numbers f g from (t ∷ ts) h =
    let z : from ≡ from + 0 = omega arith in
    ap₂ (λ x xs. x ∷ xs) (ap f z ∙ h 0 t refl)
    (by-numbers f g (from + 1) ts (λ k u at. let q : from + 1 + k ≡ from + suc k = omega arith in ap f q ∙ h (suc k) u at))

pub groups-are-postings : GroupsArePostings
groups-are-postings table ss entries ascends are =
    by-numbers (group_of entries) (λ term. postings term ss) 0 table
    (λ k term at.
    let z : 0 + k ≡ k = omega arith in
    ap (group_of entries) z
    ∙ ap (fold pushed []) (picked-chosen table ascends k term at entries ∙ ap (chosen term) are)
    ∙ marks-group term ss)
