-- Lists that grow at their end.
use Rattle.std.proofs.Common.{◌≡◌, ℕ, suc, zero, ◌+◌, ◌≤◌, List, [], ◌∷◌, ◌++◌, ap, refl, sym, subst, length, take, slice_get, Some, arith}

taken_next : {X : Type 0} (xs : List X) (k : ℕ) (x : X) → slice_get xs k ≡ Some x → take (suc k) xs ≡ take k xs ++ x ∷ []
taken_next [] k x e = absurd (cc)
taken_next {X = X} (y ∷ xs) zero x e = let same : y ≡ x = cc in ap (λ (z : X). z ∷ []) same
taken_next {X = X} (y ∷ xs) (suc k) x e = ap (λ (zs : List X). y ∷ zs) (taken_next xs k x e)

-- one more of a list
pub taken_more : {X : Type 0} (xs : List X) (k : ℕ) (x : X) → slice_get xs k ≡ Some x → take (k + 1) xs ≡ take k xs ++ x ∷ []
taken_more xs k x e = let one : k + 1 ≡ suc k = omega arith in subst (λ (n : ℕ). take n xs ≡ take k xs ++ x ∷ []) (sym one) (taken_next xs k x e)

-- all of a list
pub taken_all : {X : Type 0} (xs : List X) (k : ℕ) → length xs ≤ k → take k xs ≡ xs
taken_all [] zero h = refl
taken_all [] (suc k) h = refl
taken_all (x ∷ xs) zero h = absurd (let g : suc (length xs) ≤ 0 = h in omega arith)
taken_all {X = X} (x ∷ xs) (suc k) h = ap (λ (zs : List X). x ∷ zs) (taken_all xs k (let g : suc (length xs) ≤ suc k = h in omega arith))

-- what stands at a place stands there behind which more comes
pub got_before : {X : Type 0} (xs ys : List X) (k : ℕ) (x : X) → slice_get xs k ≡ Some x → slice_get (xs ++ ys) k ≡ Some x
got_before [] ys k x e = absurd (cc)
got_before (y ∷ xs) ys zero x e = e
got_before (y ∷ xs) ys (suc k) x e = got_before xs ys k x e
