-- A text stands in a sentence exactly where its posting list has it; a label of an edge stands as an incoming one.
use Rattle.std.proofs.Common.{◌≡◌, ℕ, zero, suc, ◌+◌, ◌<◌, Bool, true, false, cond, List, [], ◌∷◌, length, map, filter, refl, sym, ◌∙◌, ap, subst, arith, inl, inr}
use Rattle.std.proofs.lemmas.Bool.{and_parts, and_from, or_cases, or_left, or_right, eqb-true, eq-eqb}
use Rattle.std.proofs.lemmas.List.Folds.{list_any-append}
use Rattle.std.proofs.lemmas.Option.{slice_get_within}
use Rattle.std.specs.Prelude.{◌&&◌, ◌||◌, ◌==◌, Option, Some, None, slice_get}
use Rattle.std.specs.List.{flat_map, list_any, enumerate_from}
use Rattle.od_asked.specs.Holds.{has_text}
use Rattle.od_document.specs.declared.sentence.Sentence.{Sentence}
use Rattle.od_index.specs.Postings.{stands_at, postings_in}
use Rattle.od_matching.proofs.Matching.Tests.{any_at, some_below}
use Rattle.od_matching.proofs.Rounds.Terms.{terms-are-texts}
use Rattle.od_need.specs.Laws.{PostedWhereOccurs}
use Rattle.od_need.specs.Occurs.{some_token}
use Rattle.od_pattern.specs.declared.pattern.Value.TheVariants.{Plain}

-- ## Tests of lists

pub same-truth : (a b : Bool) → (a ≡ true → b ≡ true) → (b ≡ true → a ≡ true) → a ≡ b
same-truth true b h k = sym (h refl)
same-truth false true h k = absurd (let q : false ≡ true = k refl in cc)
same-truth false false h k = refl

-- an element that passes, with its number
passes-at : {X : Type 0} (test : ℕ × X → Bool) (from : ℕ) (xs : List X) → list_any test (enumerate_from from xs) ≡ true
    → (k : ℕ) × (x : X) × (slice_get xs k ≡ Some x) × (test (from + k, x) ≡ true)
passes-at test from [] e = absurd (let q : false ≡ true = e in cc)
passes-at test from (x ∷ xs) e = elim (or_cases (test (from, x)) _ e) [
  | inl here ↦ (0, x, refl, let q : from ≡ from + 0 = omega arith in subst (λ n. test (n, x) ≡ true) q here)
  | inr there ↦
      let r = passes-at test (from + 1) xs there in
      let q : from + 1 + r.0 ≡ from + suc r.0 = omega arith in
      (suc r.0, r.1, r.2, subst (λ n. test (n, r.1) ≡ true) q r.3)
]

at-passes : {X : Type 0} (test : ℕ × X → Bool) (from : ℕ) (xs : List X) (k : ℕ) (x : X) → slice_get xs k ≡ Some x → test (from + k, x) ≡ true → list_any test (enumerate_from from xs) ≡ true
at-passes test from [] k x at e = absurd (let q : ◌≡◌ {A = Option _} None (Some x) = at in cc)
at-passes test from (y ∷ xs) zero x at e =
    let same : y ≡ x = (let q : Some y ≡ Some x = at in cc) in
    let q : from + 0 ≡ from = omega arith in
    or_left _ _ (subst (λ z. test (from, z) ≡ true) (sym same) (subst (λ n. test (n, x) ≡ true) q e))
at-passes test from (y ∷ xs) (suc k) x at e =
    let q : from + suc k ≡ from + 1 + k = omega arith in
    or_right _ _ (at-passes test (from + 1) xs k x at (subst (λ n. test (n, x) ≡ true) q e))

any-flat : {X Y : Type 0} (test : Y → Bool) (f : X → List Y) (xs : List X) → list_any test (flat_map f xs) ≡ list_any (λ x. list_any test (f x)) xs
any-flat test f [] = refl
any-flat test f (x ∷ xs) = list_any-append test (f x) (flat_map f xs) ∙ ap (λ b. list_any test (f x) || b) (any-flat test f xs)

absorbs : (c r l : Bool) → r ≡ (c && l) → (c || r) ≡ (c && true)
absorbs true r l e = refl
absorbs false r l e = e

nothing : (c : Bool) → false ≡ (c && false)
nothing true = refl
nothing false = refl

-- the postings of a sentence are of that sentence alone
posts : {X : Type 0} (n i : ℕ) (test : ℕ × X → Bool) (ts : List (ℕ × X)) → list_any (λ (p : ℕ × ℕ). p.0 == i) (map (λ t. (n, t.0)) (filter test ts)) ≡ ((n == i) && list_any test ts)
posts n i test [] = nothing (n == i)
posts {X = X} n i test (t ∷ ts) = step (test t) (posts n i test ts)
  where
    step : (b : Bool) → list_any (λ (p : ℕ × ℕ). p.0 == i) (map (λ t. (n, t.0)) (filter test ts)) ≡ ((n == i) && list_any test ts)
        → list_any (λ (p : ℕ × ℕ). p.0 == i) (map (λ t. (n, t.0)) (cond b (t ∷ filter test ts) (filter test ts))) ≡ ((n == i) && (b || list_any test ts))
    step true e = absorbs (n == i) _ _ e
    step false e = e

-- ## Texts

pub some-at' : {X : Type 0} (xs : List X) (i : ℕ) → i < length xs → (x : X) × (slice_get xs i ≡ Some x)
some-at' [] i h = absurd (omega arith)
some-at' (x ∷ xs) zero h = (x, refl)
some-at' (x ∷ xs) (suc i) h = some-at' xs i (omega arith)

one-sentence : (a b : Sentence) → Some a ≡ Some b → a ≡ b
one-sentence a b e = cc

pub posted-where-occurs : PostedWhereOccurs
posted-where-occurs field text ss i s at =
    any-flat (λ (p : ℕ × ℕ). p.0 == i) (postings_in (field, text)) (enumerate_from 0 ss)
    ∙ same-truth (list_any (λ x. list_any (λ (p : ℕ × ℕ). p.0 == i) (postings_in (field, text) x)) (enumerate_from 0 ss)) (some_token s field (Plain text))
    (λ e.
    let r = passes-at (λ x. list_any (λ (p : ℕ × ℕ). p.0 == i) (postings_in (field, text) x)) 0 ss e in
    let both = and_parts _ _ (sym (posts (0 + r.0) i (stands_at (field, text) r.1) (enumerate_from 0 r.1.tokens)) ∙ r.3) in
    let n : 0 + r.0 ≡ i = eqb-true _ _ both.0 in
    let k : r.0 ≡ i = omega (arith, n) in
    let same : r.1 ≡ s = one-sentence r.1 s (sym r.2 ∙ ap (slice_get ss) k ∙ at) in
    let t = passes-at (stands_at (field, text) r.1) 0 r.1.tokens both.1 in
    let z : 0 + t.0 ≡ t.0 = omega arith in
    let stands : stands_at (field, text) r.1 (t.0, t.1) ≡ true = subst (λ m. stands_at (field, text) r.1 (m, t.1) ≡ true) z t.3 in
    let has : has_text r.1 field (Plain text) t.0 ≡ true = sym (terms-are-texts r.1 t.0 t.1 field text t.2) ∙ stands in
    subst (λ s'. some_token s' field (Plain text) ≡ true) same
    (any_at (length r.1.tokens) (has_text r.1 field (Plain text)) t.0 (slice_get_within r.1.tokens t.0 t.1 t.2) has)
    )
    (λ e.
    let r = some_below (length s.tokens) (has_text s field (Plain text)) e in
    let token = some-at' s.tokens r.0 r.1 in
    let stands : stands_at (field, text) s (r.0, token.0) ≡ true = terms-are-texts s r.0 token.0 field text token.1 ∙ r.2 in
    let z : r.0 ≡ 0 + r.0 = omega arith in
    let there = at-passes (stands_at (field, text) s) 0 s.tokens r.0 token.0 token.1 (subst (λ m. stands_at (field, text) s (m, token.0) ≡ true) z stands) in
    let n : 0 + i ≡ i = omega arith in
    at-passes (λ x. list_any (λ (p : ℕ × ℕ). p.0 == i) (postings_in (field, text) x)) 0 ss i s at
    (posts (0 + i) i (stands_at (field, text) s) (enumerate_from 0 s.tokens) ∙ and_from _ _ (eq-eqb (0 + i) i n) there)
    )
