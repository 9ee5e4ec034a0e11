-- Tests that are true.
use Rattle.std.proofs.Common.{◌≡◌, ℕ, zero, suc, ◌<◌, Bool, true, false, refl, List, [], ◌∷◌, inl, inr, arith, sym, subst}
use Rattle.std.specs.Prelude.{◌||◌, Option, Some, None, slice_get}
use Rattle.std.specs.List.{list_any}
use Rattle.std.proofs.lemmas.Bool.{cases_lt, or_cases}
use Rattle.od_matching.specs.Matching.Hops.{any_below}

-- a disjunction with a true side is true
pub or_left : (a b : Bool) → a ≡ true → (a || b) ≡ true
or_left true b e = refl
or_left false b e = absurd (cc)

pub or_right : (a b : Bool) → b ≡ true → (a || b) ≡ true
or_right true b e = refl
or_right false b e = e

-- a number below n that passes
pub any_at : (n : ℕ) (test : ℕ → Bool) (k : ℕ) → k < n → test k ≡ true → any_below n test ≡ true
any_at zero test k h e = absurd (omega arith)
any_at (suc n) test k h e =
    elim (cases_lt k n) [
      | inl lt ↦ or_right (test n) (any_below n test) (any_at n test k lt e)
      | inr ge ↦ let same : k ≡ n = omega arith in or_left (test n) (any_below n test) (subst (λ (z : ℕ). test z ≡ true) same e)
    ]

-- some number below n, which passes
pub some_below : (n : ℕ) (test : ℕ → Bool) → any_below n test ≡ true → (k : ℕ) × (k < n) × (test k ≡ true)
some_below zero test e = absurd (let q : false ≡ true = e in cc)
some_below (suc n) test e =
    elim (or_cases (test n) (any_below n test) e) [
      | inl h ↦ (n, omega arith, h)
      | inr h ↦ let r = some_below n test h in (r.0, (let lt : r.0 < n = r.1 in omega arith), r.2)
    ]

-- an element that passes
pub list_any_head : {A : Type 0} (test : A → Bool) (x : A) (xs : List A) → test x ≡ true → list_any test (x ∷ xs) ≡ true
list_any_head test x xs e = or_left (test x) (list_any test xs) e

pub list_any_tail : {A : Type 0} (test : A → Bool) (x : A) (xs : List A) → list_any test xs ≡ true → list_any test (x ∷ xs) ≡ true
list_any_tail test x xs e = or_right (test x) (list_any test xs) e

pub any_there : {A : Type 0} (test : A → Bool) (xs : List A) (i : ℕ) (x : A) → slice_get xs i ≡ Some x → test x ≡ true → list_any test xs ≡ true
any_there test [] i x e h = absurd (let q : ◌≡◌ {A = Option _} None (Some x) = e in cc)
any_there test (y ∷ xs) zero x e h = let q : y ≡ x = (let r : Some y ≡ Some x = e in cc) in list_any_head test y xs (subst (λ z. test z ≡ true) (sym q) h)
any_there test (y ∷ xs) (suc i) x e h = list_any_tail test y xs (any_there test xs i x e h)
