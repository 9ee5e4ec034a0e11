-- Elements of lists, one after another.
use Rattle.std.proofs.Common.{◌≡◌, ℕ, zero, suc, ◌+◌, ◌<◌, ◌≤◌, Bool, true, false, List, [], ◌∷◌, length, take, filter, refl, sym, ap, ap₂, ◌∙◌, subst, arith, get_or}
use Rattle.std.proofs.lemmas.List.{take_all}
use Rattle.std.specs.Prelude.{◌&&◌, ◌||◌, Option, Some, None, slice_get}
use Rattle.std.specs.List.{list_any, list_all}
use Rattle.std.specs.List.Sorted.{IsStrictlySortedBy}
use Rattle.std.specs.Ordering.{nat_cmp}
use Rattle.od_plan.proofs.Built.{and-true, or-false, and-assoc, or-assoc}
use Rattle.od_plan.proofs.Filters.{both-kept, same-kept, kept-ascends, merged-kept}
use Rattle.od_plan.specs.Found.{merged}

pub all-last : {X : Type 0} (test : X → Bool) (xs : List X) (k : ℕ) (x : X) → slice_get xs k ≡ Some x → list_all test (take (suc k) xs) ≡ (list_all test (take k xs) && test x)
all-last test [] k x e = absurd (let q : ◌≡◌ {A = Option _} None (Some x) = e in cc)
all-last test (y ∷ xs) zero x e = let q : y ≡ x = (let p : Some y ≡ Some x = e in cc) in and-true (test y) ∙ ap test q
all-last test (y ∷ xs) (suc k) x e = ap (λ b. test y && b) (all-last test xs k x e) ∙ sym (and-assoc (test y) _ _)

pub any-last : {X : Type 0} (test : X → Bool) (xs : List X) (k : ℕ) (x : X) → slice_get xs k ≡ Some x → list_any test (take (suc k) xs) ≡ (list_any test (take k xs) || test x)
any-last test [] k x e = absurd (let q : ◌≡◌ {A = Option _} None (Some x) = e in cc)
any-last test (y ∷ xs) zero x e = let q : y ≡ x = (let p : Some y ≡ Some x = e in cc) in or-false (test y) ∙ ap test q
any-last test (y ∷ xs) (suc k) x e = ap (λ b. test y || b) (any-last test xs k x e) ∙ sym (or-assoc (test y) _ _)

-- one of the elements up to the next place
pub any-next : {X : Type 0} (test : X → Bool) (xs : List X) (k : ℕ) (x : X) → slice_get xs k ≡ Some x → list_any test (take (k + 1) xs) ≡ (list_any test (take k xs) || test x)
any-next test xs k x e = let q : suc k ≡ k + 1 = omega arith in subst (λ m. list_any test (take m xs) ≡ (list_any test (take k xs) || test x)) q (any-last test xs k x e)

pub all-next : {X : Type 0} (test : X → Bool) (xs : List X) (k : ℕ) (x : X) → slice_get xs k ≡ Some x → list_all test (take (k + 1) xs) ≡ (list_all test (take k xs) && test x)
all-next test xs k x e = let q : suc k ≡ k + 1 = omega arith in subst (λ m. list_all test (take m xs) ≡ (list_all test (take k xs) && test x)) q (all-last test xs k x e)

pub item-there : {X : Type 0} (xs : List X) (k : ℕ) (x : X) → k < length xs → x ≡ get_or xs k x → slice_get xs k ≡ Some x
item-there [] k x lt e = absurd (omega (arith, lt))
item-there (y ∷ xs) zero x lt e = ap Some (sym e)
item-there (y ∷ xs) (suc k) x lt e = item-there xs k x (omega (arith, lt)) e

pub item-got : {X : Type 0} (xs : List X) (k : ℕ) (d : X) → k < length xs → slice_get xs k ≡ Some (get_or xs k d)
item-got [] k d lt = absurd (omega (arith, lt))
item-got (y ∷ xs) zero d lt = refl
item-got (y ∷ xs) (suc k) d lt = item-got xs k d (omega (arith, lt))

-- ## What parts want

module _ {W : Type 0} (test : W → ℕ → Bool) where
  -- a further part of all
  pub all-step : (parts : List W) (k : ℕ) (w : W) (xs kept new : List ℕ) → k < length parts → w ≡ get_or parts k w
      → kept ≡ filter (λ i. list_all (λ w. test w i) (take k parts)) xs → new ≡ filter (test w) kept
      → new ≡ filter (λ i. list_all (λ w. test w i) (take (k + 1) parts)) xs
  all-step parts k w xs kept new lt is so next =
      next ∙ ap (filter (test w)) so
      ∙ both-kept (λ i. list_all (λ w. test w i) (take k parts)) (test w) xs
      ∙ same-kept _ _ (λ i. sym (all-next (λ w. test w i) parts k w (item-there parts k w lt is))) xs

  -- what is left ascends
  pub all-ascends : (parts : List W) (xs kept : List ℕ) → IsStrictlySortedBy nat_cmp xs → kept ≡ filter (λ i. list_all (λ w. test w i) parts) xs → IsStrictlySortedBy nat_cmp kept
  all-ascends parts xs kept sorted so = subst (IsStrictlySortedBy nat_cmp) (sym so) (kept-ascends (λ i. list_all (λ w. test w i) parts) xs sorted)

  -- a further part of some
  pub any-step : (parts : List W) (k : ℕ) (w : W) (xs kept more new : List ℕ) → IsStrictlySortedBy nat_cmp xs → k < length parts → w ≡ get_or parts k w
      → kept ≡ filter (λ i. list_any (λ w. test w i) (take k parts)) xs → more ≡ filter (test w) xs → new ≡ merged kept more
      → new ≡ filter (λ i. list_any (λ w. test w i) (take (k + 1) parts)) xs
  any-step parts k w xs kept more new sorted lt is so next both =
      both ∙ ap₂ merged so next
      ∙ merged-kept (λ i. list_any (λ w. test w i) (take k parts)) (test w) xs sorted
      ∙ same-kept _ _ (λ i. sym (any-next (λ w. test w i) parts k w (item-there parts k w lt is))) xs

  pub all-end : (parts : List W) (k : ℕ) (xs kept : List ℕ) → length parts ≤ k → kept ≡ filter (λ i. list_all (λ w. test w i) (take k parts)) xs
      → kept ≡ filter (λ i. list_all (λ w. test w i) parts) xs
  all-end parts k xs kept h so = so ∙ ap (λ (ps : List W). filter (λ i. list_all (λ w. test w i) ps) xs) (take_all k parts h)

  pub any-end : (parts : List W) (k : ℕ) (xs kept : List ℕ) → length parts ≤ k → kept ≡ filter (λ i. list_any (λ w. test w i) (take k parts)) xs
      → kept ≡ filter (λ i. list_any (λ w. test w i) parts) xs
  any-end parts k xs kept h so = so ∙ ap (λ (ps : List W). filter (λ i. list_any (λ w. test w i) ps) xs) (take_all k parts h)

  -- all of the parts of what one of them keeps
  pub all-of-one : (parts : List W) (k : ℕ) (w : W) (xs : List ℕ) → slice_get parts k ≡ Some w
      → filter (λ i. list_all (λ w. test w i) parts) (filter (test w) xs) ≡ filter (λ i. list_all (λ w. test w i) parts) xs
  all-of-one parts k w xs at =
      both-kept (test w) (λ i. list_all (λ w. test w i) parts) xs
      ∙ same-kept _ _ (λ i. implied (test w i) (list_all (λ w. test w i) parts) (one parts k i at)) xs
    where
      implied : (a b : Bool) → (b ≡ true → a ≡ true) → (a && b) ≡ b
      implied true b h = refl
      implied false true h = absurd (let q : false ≡ true = h refl in cc)
      implied false false h = refl

      one : (parts : List W) (k i : ℕ) → slice_get parts k ≡ Some w → list_all (λ w. test w i) parts ≡ true → test w i ≡ true
      one [] k i e h = absurd (let q : ◌≡◌ {A = Option _} None (Some w) = e in cc)
      one (v ∷ parts) zero i e h = let q : v ≡ w = (let p : Some v ≡ Some w = e in cc) in sym (ap (λ u. test u i) q) ∙ left (test v i) _ h
        where
          left : (a b : Bool) → (a && b) ≡ true → a ≡ true
          left true b h = refl
          left false b h = h
      one (v ∷ parts) (suc k) i e h = one parts k i e (right (test v i) _ h)
        where
          right : (a b : Bool) → (a && b) ≡ true → b ≡ true
          right true b h = h
          right false b h = absurd (let q : false ≡ true = h in cc)
