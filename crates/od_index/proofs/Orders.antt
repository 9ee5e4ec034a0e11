-- Ascending lists are known by their elements.
use Rattle.std.proofs.Common.{◌≡◌, ℕ, suc, zero, List, [], ◌∷◌, refl, sym, ap, ap₂, subst, arith, Ordering, slice_get, Some, inl, inr}
use Rattle.std.specs.Prelude.{Contains, ◌<◌, ◌⊎◌}
use Rattle.std.specs.declared.cmp.Ordering.TheVariants.{Less, Equal}
use Rattle.std.specs.Ordering.{nat_cmp}
use Rattle.std.specs.List.Sorted.{IsStrictlySortedBy}
use Rattle.std.specs.Cmp.Lexicographic.{slice_cmp}
use Rattle.std.proofs.lemmas.Cmp.{then_total, on_total, nat_cmp_total, nat_list_cmp_total, tied_itself}
use Rattle.std.proofs.lemmas.Map.Keys.{sorted_head, sorted_tail}
use Rattle.std.proofs.lemmas.Map.Lookups.{exact_bytes, exact_unsigned, exact_pairs}
use Rattle.std.proofs.lemmas.List.Elements.{All-from_recursion, All-contains}
use Rattle.od_index.specs.Ascending.{IsAscendingOf, IsExactOrder, pair_cmp}
use Rattle.od_index.proofs.Members.{Contains-head, Contains-tail, Contains-cases, Contains-none, Contains-slice_get}

module _ {X : Type 0} (cmp : X → X → Ordering) (exact : IsExactOrder cmp) where
  -- what stands behind the first is above it
  above-head : (x : X) (xs : List X) (t : X) → IsStrictlySortedBy cmp (x ∷ xs) → Contains xs t → cmp x t ≡ Less
  above-head x xs t s c = All-contains (λ y. cmp x y ≡ Less) xs t (All-from_recursion (λ y. cmp x y ≡ Less) xs (sorted_head cmp x xs s)) c

  not-below-itself : (x : X) → cmp x x ≡ Less → ⊥
  not-below-itself x h = let e : cmp x x ≡ Equal = tied_itself exact.0 x in absurd (cc)

  not-below-both : (x y : X) → cmp x y ≡ Less → cmp y x ≡ Less → ⊥
  not-below-both x y h k = not-below-itself x (exact.0.trans x y x h k)

  -- of two ascending lists with the same elements the first ones are equal
  first-same : (x y : X) (xs ys : List X) → IsStrictlySortedBy cmp (x ∷ xs) → IsStrictlySortedBy cmp (y ∷ ys) → Contains (y ∷ ys) x → Contains (x ∷ xs) y → x ≡ y
  first-same x y xs ys s t c d = by (Contains-cases y ys x c) (Contains-cases x xs y d)
    where
      by : (y ≡ x) ⊎ Contains ys x → (x ≡ y) ⊎ Contains xs y → x ≡ y
      by (inl e) k = sym e
      by (inr h) (inl e) = e
      by (inr h) (inr k) = absurd (not-below-both x y (above-head x xs y s k) (above-head y ys x t h))

  -- what is in the rest of one list is in the rest of the other
  rest-has : (x : X) (xs ys : List X) → IsStrictlySortedBy cmp (x ∷ xs) → ((t : X) → Contains (x ∷ xs) t → Contains (x ∷ ys) t) → (t : X) → Contains xs t → Contains ys t
  rest-has x xs ys s f t c = by (Contains-cases x ys t (f t (Contains-tail x xs t c)))
    where
      by : (x ≡ t) ⊎ Contains ys t → Contains ys t
      by (inl e) = absurd (not-below-itself x (subst (λ (z : X). cmp x z ≡ Less) (sym e) (above-head x xs t s c)))
      by (inr d) = d

  -- ascending lists with the same elements are equal
  pub same-elements : (a b : List X) → IsStrictlySortedBy cmp a → IsStrictlySortedBy cmp b → ((t : X) → Contains a t → Contains b t) → ((t : X) → Contains b t → Contains a t) → a ≡ b
  same-elements [] [] s t f g = refl
  same-elements [] (y ∷ ys) s t f g = absurd (Contains-none y (g y (Contains-head y ys)))
  same-elements (x ∷ xs) [] s t f g = absurd (Contains-none x (f x (Contains-head x xs)))
  same-elements (x ∷ xs) (y ∷ ys) s t f g =
      let e : x ≡ y = first-same x y xs ys s t (f x (Contains-head x xs)) (g y (Contains-head y ys)) in
      let t' : IsStrictlySortedBy cmp (x ∷ ys) = subst (λ (z : X). IsStrictlySortedBy cmp (z ∷ ys)) (sym e) t in
      let f' = subst (λ (z : X). (u : X) → Contains (x ∷ xs) u → Contains (z ∷ ys) u) (sym e) f in
      let g' = subst (λ (z : X). (u : X) → Contains (z ∷ ys) u → Contains (x ∷ xs) u) (sym e) g in
      let rest : xs ≡ ys = same-elements xs ys (sorted_tail cmp x xs s) (sorted_tail cmp x ys t') (rest-has x xs ys s f') (rest-has x ys xs t' g') in
      ap₂ (λ z zs. z ∷ zs) e rest

  -- a list has one ascending list of its elements at most
  pub one-ascending : (xs a b : List X) → IsAscendingOf cmp xs a → IsAscendingOf cmp xs b → a ≡ b
  one-ascending xs a b p q = same-elements a b p.ascends q.ascends (λ t c. q.has t (p.adds_none t c)) (λ t c. p.has t (q.adds_none t c))

  -- of two places the earlier has the lower element
  pub ascends-at : (xs : List X) (i j : ℕ) (a b : X) → IsStrictlySortedBy cmp xs → i < j → slice_get xs i ≡ Some a → slice_get xs j ≡ Some b → cmp a b ≡ Less
  ascends-at [] i j a b s h d e = absurd (cc)
  ascends-at (x ∷ xs) i zero a b s h d e = absurd (omega arith)
  ascends-at (x ∷ xs) zero (suc j) a b s h d e = let same : x ≡ a = cc in subst (λ (z : X). cmp z b ≡ Less) same (above-head x xs b s (Contains-slice_get xs j b e))
  ascends-at (x ∷ xs) (suc i) (suc j) a b s h d e = ascends-at xs i j a b (sorted_tail cmp x xs s) (omega arith) d e

  -- an element stands at one place at most
  pub one-place : (xs : List X) (i j : ℕ) (a : X) → IsStrictlySortedBy cmp xs → slice_get xs i ≡ Some a → slice_get xs j ≡ Some a → i ≡ j
  one-place [] i j a s d e = absurd (cc)
  one-place (x ∷ xs) zero zero a s d e = refl
  one-place (x ∷ xs) zero (suc j) a s d e = let same : x ≡ a = cc in absurd (not-below-itself a (subst (λ (z : X). cmp z a ≡ Less) same (above-head x xs a s (Contains-slice_get xs j a e))))
  one-place (x ∷ xs) (suc i) zero a s d e = let same : x ≡ a = cc in absurd (not-below-itself a (subst (λ (z : X). cmp z a ≡ Less) same (above-head x xs a s (Contains-slice_get xs i a d))))
  one-place (x ∷ xs) (suc i) (suc j) a s d e = ap suc (one-place xs i j a (sorted_tail cmp x xs s) d e)

-- pairs of numbers are in an exact order
pub pairs-exact : IsExactOrder pair_cmp
pairs-exact = (
  then_total (on_total (λ (p : ℕ × ℕ). p.0) nat_cmp_total) (on_total (λ (p : ℕ × ℕ). p.1) nat_cmp_total),
  exact_pairs nat_cmp nat_cmp exact_unsigned exact_unsigned,
)

-- and so are texts
pub texts-exact : IsExactOrder (slice_cmp nat_cmp)
texts-exact = (nat_list_cmp_total, exact_bytes)
