-- A label of an edge is an incoming one of the token at which the edge ends.
use Rattle.std.proofs.Common.{◌≡◌, ℕ, zero, suc, ◌<◌, Bool, true, false, cond, List, [], ◌∷◌, length, map, filter, refl, sym, ◌∙◌, ap, subst, inl, inr}
use Rattle.std.proofs.lemmas.Bool.{or_cases, or_left, or_right, eq-eqb}
use Rattle.std.proofs.lemmas.Option.{slice_get_within, get_or_from_slice_get}
use Rattle.std.specs.Prelude.{◌||◌, ◌==◌, Option, Some, None, slice_get}
use Rattle.std.specs.List.{list_any}
use Rattle.od_asked.specs.Holds.{texts_there, has_text}
use Rattle.od_asked.specs.Texts.{fits}
use Rattle.od_document.specs.declared.sentence.Sentence.{Sentence}
use Rattle.od_document.specs.declared.token.Edge.{Edge}
use Rattle.od_matching.proofs.Matching.Tests.{any_at, some_below}
use Rattle.od_need.proofs.Posted.{same-truth, some-at'}
use Rattle.od_need.specs.Laws.{LabelComesIn}
use Rattle.od_need.specs.Occurs.{some_token, some_edge}
use Rattle.od_pattern.specs.declared.pattern.Field.TheVariants.{Incoming}

-- the edge with its place, of which a test is true
edge-at : {X : Type 0} (test : X → Bool) (xs : List X) → list_any test xs ≡ true → (i : ℕ) × (x : X) × (slice_get xs i ≡ Some x) × (test x ≡ true)
edge-at test [] e = absurd (let q : false ≡ true = e in cc)
edge-at test (x ∷ xs) e = elim (or_cases (test x) (list_any test xs) e) [
  | inl here ↦ (0, x, refl, here)
  | inr there ↦ let r = edge-at test xs there in (suc r.0, r.1, r.2, r.3)
]

any-map : {X Y : Type 0} (test : Y → Bool) (f : X → Y) (xs : List X) → list_any test (map f xs) ≡ list_any (λ x. test (f x)) xs
any-map test f [] = refl
any-map test f (x ∷ xs) = ap (λ b. test (f x) || b) (any-map test f xs)

-- one that is kept
kept-passes : {X : Type 0} (test keep : X → Bool) (xs : List X) (i : ℕ) (x : X) → slice_get xs i ≡ Some x → keep x ≡ true → test x ≡ true → list_any test (filter keep xs) ≡ true
kept-passes test keep [] i x at k e = absurd (let q : ◌≡◌ {A = Option _} None (Some x) = at in cc)
kept-passes test keep (y ∷ xs) zero x at k e =
    let same : y ≡ x = (let q : Some y ≡ Some x = at in cc) in
    subst (λ b. list_any test (cond b (y ∷ filter keep xs) (filter keep xs)) ≡ true) (sym (ap keep same ∙ k)) (or_left _ _ (ap test same ∙ e))
kept-passes {X = X} test keep (y ∷ xs) (suc i) x at k e = step (keep y) (kept-passes test keep xs i x at k e)
  where
    step : (b : Bool) → list_any test (filter keep xs) ≡ true → list_any test (cond b (y ∷ filter keep xs) (filter keep xs)) ≡ true
    step true h = or_right _ _ h
    step false h = h

passes-unkept : {X : Type 0} (test keep : X → Bool) (xs : List X) → list_any test (filter keep xs) ≡ true → list_any test xs ≡ true
passes-unkept test keep [] e = e
passes-unkept {X = X} test keep (y ∷ xs) e = step (keep y) (passes-unkept test keep xs) e
  where
    step : (b : Bool) → (list_any test (filter keep xs) ≡ true → list_any test xs ≡ true) → list_any test (cond b (y ∷ filter keep xs) (filter keep xs)) ≡ true → (test y || list_any test xs) ≡ true
    step true k h = elim (or_cases (test y) (list_any test (filter keep xs)) h) [
      | inl here ↦ or_left _ _ here
      | inr there ↦ or_right _ _ (k there)
    ]
    step false k h = or_right _ _ (k h)

-- an edge ends at a token
ends-at : (s : Sentence) (i : ℕ) (edge : Edge) → slice_get s.edges i ≡ Some edge → edge.dependent < length s.tokens
ends-at s i edge e =
    let lies : (edge' : Edge) → Type 0 = λ edge'. (edge'.governor < length s.tokens) × (edge'.dependent < length s.tokens) in
    (subst lies (get_or_from_slice_get s.edges i edge edge e) (s.ends i edge (slice_get_within s.edges i edge e))).1

pub label-comes-in : LabelComesIn
label-comes-in s v =
    same-truth (some_edge s v) (some_token s Incoming v)
    (λ e.
    let r = edge-at (λ (edge : Edge). fits v edge.label) s.edges e in
    let k : ℕ = r.1.dependent in
    let lt : k < length s.tokens = ends-at s r.0 r.1 r.2 in
    let token = some-at' s.tokens k lt in
    let here : list_any (λ (edge : Edge). fits v edge.label) (filter (λ (edge : Edge). edge.dependent == k) s.edges) ≡ true =
    kept-passes (λ (edge : Edge). fits v edge.label) (λ (edge : Edge). edge.dependent == k) s.edges r.0 r.1 r.2 (eq-eqb k k refl) r.3 in
    let has : has_text s Incoming v k ≡ true =
    ap (λ o. list_any (fits v) (texts_there s k Incoming o)) token.1 ∙ any-map (fits v) (λ (edge : Edge). edge.label) (filter (λ (edge : Edge). edge.dependent == k) s.edges) ∙ here in
    any_at (length s.tokens) (has_text s Incoming v) k lt has
    )
    (λ e.
    let r = some_below (length s.tokens) (has_text s Incoming v) e in
    let token = some-at' s.tokens r.0 r.1 in
    let has = sym (ap (λ o. list_any (fits v) (texts_there s r.0 Incoming o)) token.1 ∙ any-map (fits v) (λ (edge : Edge). edge.label) (filter (λ (edge : Edge). edge.dependent == r.0) s.edges)) ∙ r.2 in
    passes-unkept (λ (edge : Edge). fits v edge.label) (λ (edge : Edge). edge.dependent == r.0) s.edges has
    )
