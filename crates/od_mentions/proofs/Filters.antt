-- Tests of a list that another test, which more passes, has thinned out.
use Rattle.std.proofs.Common.{◌≡◌, List, [], ◌∷◌, filter, Bool, true, false, cond, ◌||◌, refl, ap₂}
use Rattle.std.specs.List.{list_any}

module _ {X : Type 0} (p wide : X → Bool) (wider : (x : X) → p x ≡ true → wide x ≡ true) where
  any-step : (w b : Bool) (x : X) (kept xs : List X) → p x ≡ b → (b ≡ true → w ≡ true) → list_any p kept ≡ list_any p xs
      → list_any p (cond w (x ∷ kept) kept) ≡ (b || list_any p xs)
  any-step true b x kept xs is h e = ap₂ (λ c d. c || d) is e
  any-step false true x kept xs is h e = absurd (let q : false ≡ true = h refl in cc)
  any-step false false x kept xs is h e = e

  pub list_any-filter : (xs : List X) → list_any p (filter wide xs) ≡ list_any p xs
  list_any-filter [] = refl
  list_any-filter (x ∷ xs) = any-step (wide x) (p x) x (filter wide xs) xs refl (wider x) (list_any-filter xs)

  filter-step : (w b : Bool) (x : X) (kept ys : List X) → p x ≡ b → (b ≡ true → w ≡ true) → filter p kept ≡ ys
      → filter p (cond w (x ∷ kept) kept) ≡ cond b (x ∷ ys) ys
  filter-step true b x kept ys is h e = ap₂ (λ c zs. cond c (x ∷ zs) zs) is e
  filter-step false true x kept ys is h e = absurd (let q : false ≡ true = h refl in cc)
  filter-step false false x kept ys is h e = e

  pub filter-filter : (xs : List X) → filter p (filter wide xs) ≡ filter p xs
  filter-filter [] = refl
  filter-filter (x ∷ xs) = filter-step (wide x) (p x) x (filter wide xs) (filter p xs) refl (wider x) (filter-filter xs)
