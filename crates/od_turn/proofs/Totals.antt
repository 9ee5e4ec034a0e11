-- Sums over a list of which one element changes.
use Rattle.std.proofs.Common.{◌≡◌, ℕ, zero, suc, ◌+◌, ◌≤◌, ◌≢◌, List, [], ◌∷◌, ◌++◌, set, refl, sym, ap, arith}
use mathlib.Core.Option.{some, some-injective, some-ne-none}
use lib.ListN.{get_elem?}
use Rattle.od_turn.specs.Rule.{total}

module _ {A : Type 0} where
  pub total_set : (f : A → ℕ) (l : List A) (i : ℕ) (a b : A) → get_elem? l i ≡ some a → total f (set l i b) + f a ≡ total f l + f b
  total_set f [] i a b e = absurd (some-ne-none a (sym e))
  total_set f (x ∷ xs) zero a b e = let h : f x ≡ f a = ap f (some-injective x a e) in omega arith
  total_set f (x ∷ xs) (suc i) a b e = let h = total_set f xs i a b e in omega arith

  pub total_snoc : (f : A → ℕ) (l : List A) (a : A) → total f (l ++ a ∷ []) ≡ total f l + f a
  total_snoc f [] a = omega arith
  total_snoc f (x ∷ xs) a = let h = total_snoc f xs a in omega arith

  pub total_append : (f : A → ℕ) (l m : List A) → total f (l ++ m) ≡ total f l + total f m
  total_append f [] m = omega arith
  total_append f (x ∷ xs) m = let h = total_append f xs m in omega arith

  pub total_one : (f : A → ℕ) (l : List A) (i : ℕ) (a : A) → get_elem? l i ≡ some a → f a ≤ total f l
  total_one f [] i a e = absurd (some-ne-none a (sym e))
  total_one f (x ∷ xs) zero a e = let h : f x ≡ f a = ap f (some-injective x a e) in omega arith
  total_one f (x ∷ xs) (suc i) a e = let h = total_one f xs i a e in omega arith

  pub total_two : (f : A → ℕ) (l : List A) (i j : ℕ) (a b : A) → j ≢ i → get_elem? l i ≡ some a → get_elem? l j ≡ some b → f a + f b ≤ total f l
  total_two f [] i j a b n e d = absurd (some-ne-none a (sym e))
  total_two f (x ∷ xs) zero zero a b n e d = absurd (n refl)
  total_two f (x ∷ xs) zero (suc j) a b n e d = let h : f x ≡ f a = ap f (some-injective x a e) in let k = total_one f xs j b d in omega arith
  total_two f (x ∷ xs) (suc i) zero a b n e d = let h : f x ≡ f b = ap f (some-injective x b d) in let k = total_one f xs i a e in omega arith
  total_two f (x ∷ xs) (suc i) (suc j) a b n e d = let k = total_two f xs i j a b (λ q. n (ap suc q)) e d in omega arith

  pub total_le : (f g : A → ℕ) (l : List A) → ((i : ℕ) (a : A) → get_elem? l i ≡ some a → f a ≤ g a) → total f l ≤ total g l
  total_le f g [] h = omega arith
  total_le f g (x ∷ xs) h = let a = h zero x refl in let b = total_le f g xs (λ i y e. h (suc i) y e) in omega arith

  -- where f is at most g at each element, it is so of the others together
  pub total_rest : (f g : A → ℕ) (l : List A) (i : ℕ) (a : A) → ((x : A) → f x ≤ g x) → get_elem? l i ≡ some a → total f l + g a ≤ total g l + f a
  total_rest f g [] i a h e = absurd (some-ne-none a (sym e))
  total_rest f g (x ∷ xs) zero a h e =
      let s = some-injective x a e in
      let p : f x ≡ f a = ap f s in
      let q : g x ≡ g a = ap g s in
      let b = total_le f g xs (λ i y _. h y) in
      omega arith
  total_rest f g (x ∷ xs) (suc i) a h e = let b = total_rest f g xs i a h e in let c = h x in omega arith
