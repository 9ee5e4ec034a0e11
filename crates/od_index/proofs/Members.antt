-- The elements of a list.
use Rattle.std.proofs.Common.{◌≡◌, ℕ, suc, zero, ◌<◌, List, [], ◌∷◌, refl, ap, arith, length, map, slice_get, Some, flat_map, subst, inl, inr}
use Rattle.std.specs.Prelude.{Contains, ◌⊎◌}
use Rattle.std.proofs.lemmas.List.Elements.{Contains-append_cases, Contains-append_right}
use Rattle.od_text.specs.Lists.{Each}
use Rattle.od_text.proofs.Lists.{Each-left, Each-right}

pub Contains-head : {X : Type 0} (x : X) (xs : List X) → Contains (x ∷ xs) x
Contains-head x xs = (0, omega arith, refl)

pub Contains-tail : {X : Type 0} (x : X) (xs : List X) (t : X) → Contains xs t → Contains (x ∷ xs) t
Contains-tail x xs t h = Contains-append_right (x ∷ []) xs t h

Contains-only : {X : Type 0} (x t : X) → Contains (x ∷ []) t → x ≡ t
Contains-only x t (zero, h, e) = e
Contains-only x t (suc k, h, e) = absurd (let f : suc k < 1 = h in omega arith)

pub Contains-cases : {X : Type 0} (x : X) (xs : List X) (t : X) → Contains (x ∷ xs) t → (x ≡ t) ⊎ Contains xs t
Contains-cases x xs t h = by (Contains-append_cases (x ∷ []) xs t h)
  where
    by : Contains (x ∷ []) t ⊎ Contains xs t → (x ≡ t) ⊎ Contains xs t
    by (inl a) = inl (Contains-only x t a)
    by (inr b) = inr b

pub Contains-none : {X : Type 0} (t : X) → Contains [] t → ⊥
Contains-none t (k, h, e) = omega arith

-- P of each element
pub Each-in : {X : Type 0} (P : X → Type 0) (xs : List X) (t : X) → Each P xs → Contains xs t → P t
Each-in P [] t h c = absurd (Contains-none t c)
Each-in P (x ∷ xs) t h c = by (Contains-cases x xs t c) (Each-in P xs t h.1)
  where
    by : (x ≡ t) ⊎ Contains xs t → (Contains xs t → P t) → P t
    by (inl e) f = subst P e h.0
    by (inr d) f = f d

pub Each-from_in : {X : Type 0} (P : X → Type 0) (xs : List X) → ((t : X) → Contains xs t → P t) → Each P xs
Each-from_in P [] f = tt
Each-from_in P (x ∷ xs) f = (f x (Contains-head x xs), Each-from_in P xs (λ t c. f t (Contains-tail x xs t c)))

pub Each-from_flat_map : {X Y : Type 0} (P : Y → Type 0) (f : X → List Y) (xs : List X) → Each P (flat_map f xs) → Each (λ x. Each P (f x)) xs
Each-from_flat_map P f [] h = tt
Each-from_flat_map P f (x ∷ xs) h = (Each-left P (f x) (flat_map f xs) h, Each-from_flat_map P f xs (Each-right P (f x) (flat_map f xs) h))

pub Each-at : {X : Type 0} (P : X → Type 0) (xs : List X) (k : ℕ) (x : X) → Each P xs → slice_get xs k ≡ Some x → P x
Each-at P [] k x h e = absurd (cc)
Each-at P (y ∷ xs) zero x h e = let same : y ≡ x = cc in subst P same h.0
Each-at P (y ∷ xs) (suc k) x h e = Each-at P xs k x h.1 e

pub Contains-slice_get : {X : Type 0} (xs : List X) (k : ℕ) (x : X) → slice_get xs k ≡ Some x → Contains xs x
Contains-slice_get [] k x e = absurd (cc)
Contains-slice_get (y ∷ xs) zero x e = let same : y ≡ x = cc in (0, omega arith, same)
Contains-slice_get (y ∷ xs) (suc k) x e = Contains-tail y xs x (Contains-slice_get xs k x e)

pub slice_get-contained : {X : Type 0} (xs : List X) (x : X) → Contains xs x → (k : ℕ) × (slice_get xs k ≡ Some x)
slice_get-contained [] x c = absurd (Contains-none x c)
slice_get-contained (y ∷ xs) x c = by (Contains-cases y xs x c) (slice_get-contained xs x)
  where
    by : (y ≡ x) ⊎ Contains xs x → (Contains xs x → (k : ℕ) × (slice_get xs k ≡ Some x)) → (k : ℕ) × (slice_get (y ∷ xs) k ≡ Some x)
    by (inl e) f = (0, ap Some e)
    by (inr d) f = let r = f d in (suc r.0, r.1)

-- the elements of a list that a function makes of each element
pub Contains-map : {X Y : Type 0} (f : X → Y) (xs : List X) (x : X) → Contains xs x → Contains (map f xs) (f x)
Contains-map f [] x c = absurd (Contains-none x c)
Contains-map {X = X} f (y ∷ xs) x c = by (Contains-cases y xs x c) (Contains-map f xs x)
  where
    by : (y ≡ x) ⊎ Contains xs x → (Contains xs x → Contains (map f xs) (f x)) → Contains (map f (y ∷ xs)) (f x)
    by (inl e) g = subst (λ (z : X). Contains (map f (y ∷ xs)) (f z)) e (Contains-head (f y) (map f xs))
    by (inr d) g = Contains-tail (f y) (map f xs) (f x) (g d)

pub Contains-from_map : {X Y : Type 0} (f : X → Y) (xs : List X) (y : Y) → Contains (map f xs) y → (x : X) × Contains xs x × (f x ≡ y)
Contains-from_map f [] y c = absurd (Contains-none y c)
Contains-from_map {X = X} f (x ∷ xs) y c = by (Contains-cases (f x) (map f xs) y c) (Contains-from_map f xs y)
  where
    by : (f x ≡ y) ⊎ Contains (map f xs) y → (Contains (map f xs) y → (z : X) × Contains xs z × (f z ≡ y)) → (z : X) × Contains (x ∷ xs) z × (f z ≡ y)
    by (inl e) g = (x, Contains-head x xs, e)
    by (inr d) g = let r = g d in (r.0, Contains-tail x xs r.0 r.1, r.2)

pub slice_get-within : {X : Type 0} (xs : List X) (k : ℕ) (x : X) → slice_get xs k ≡ Some x → k < length xs
slice_get-within [] k x e = absurd (cc)
slice_get-within (y ∷ xs) zero x e = omega arith
slice_get-within (y ∷ xs) (suc k) x e = omega (arith, slice_get-within xs k x e)
