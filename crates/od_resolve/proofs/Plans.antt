-- What is wanted in one segment more.
use Rattle.std.proofs.Common.{◌≡◌, ℕ, zero, suc, List, [], ◌∷◌, ◌++◌, length, refl, sym, ap, ◌∙◌, subst, inl, inr}
use Rattle.std.specs.Prelude.{◌⊎◌, Option, Some, None, slice_get, IsSomeAnd}
use Rattle.od_index.specs.Segments.{Stored}
use Rattle.od_index.specs.Terms.{Term}
use Rattle.od_need.specs.declared.need.Need.{Need}
use Rattle.od_plan.specs.Chosen.{AreMeant}
use Rattle.od_plan.specs.Means.{Means}
use Rattle.od_plan.specs.declared.wanted.Wanted.{Wanted}

pub meant-none : (need : Need) (segments : List Stored) → AreMeant need segments []
meant-none need segments k s w at got = absurd (let q : ◌≡◌ {A = Option Wanted} None (Some w) = got in cc)

push-cases : (xs : List Wanted) (x : Wanted) (k : ℕ) (v : Wanted) → slice_get (xs ++ x ∷ []) k ≡ Some v → (slice_get xs k ≡ Some v) ⊎ ((k ≡ length xs) × (x ≡ v))
push-cases [] x zero v e = let q : x ≡ v = (let p : Some x ≡ Some v = e in cc) in inr (refl, q)
push-cases [] x (suc k) v e = absurd (let q : ◌≡◌ {A = Option Wanted} None (Some v) = e in cc)
push-cases (y ∷ xs) x zero v e = inl e
push-cases (y ∷ xs) x (suc k) v e = elim (push-cases xs x k v e) [
  | inl h ↦ inl h
  | inr h ↦ inr (ap suc h.0, h.1)
]

table-is : (o : Option Stored) (s : Stored) (table : List Term) → IsSomeAnd o (λ x. x.table ≡ table) → o ≡ Some s → table ≡ s.table
table-is None s table h e = absurd h
table-is (Some x) s table h e = let same : x ≡ s = cc in sym h ∙ ap (λ (y : Stored). y.table) same

pub meant-more : (need : Need) (segments : List Stored) (plan : List Wanted) (w : Wanted) (new : List Wanted) (place : ℕ) (table : List Term) → AreMeant need segments plan → length plan ≡ place
    → IsSomeAnd (slice_get segments place) (λ s. s.table ≡ table) → Means table need w → new ≡ plan ++ w ∷ [] → AreMeant need segments new
meant-more need segments plan w new place table are long over means is k s v at got =
    elim (push-cases plan w k v (ap (λ (xs : List Wanted). slice_get xs k) (sym is) ∙ got)) [
      | inl h ↦ are k s v at h
      | inr h ↦
          let here : slice_get segments place ≡ Some s = ap (slice_get segments) (sym (h.0 ∙ long)) ∙ at in
          subst (λ (x : Wanted). Means s.table need x) h.1
          (subst (λ (t : List Term). Means t need w) (table-is (slice_get segments place) s table over here) means)
    ]
