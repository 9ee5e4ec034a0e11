-- Rows that are changed place by place.
use Rattle.std.proofs.Common.{◌≡◌, ℕ, suc, zero, ◌+◌, ◌<◌, ◌≤◌, Bool, false, List, [], ◌∷◌, ◌++◌, refl, sym, ◌∙◌, ap, map, length, set, take, drop, slice_get, get_or, Some, arith}
use Rattle.std.specs.Prelude.{not}
use Rattle.std.specs.List.{range_with_len}
use Rattle.std.proofs.lemmas.List.FromFn.{map-range_with_len_more}
use Rattle.std.proofs.lemmas.Option.{slice_get-get_or, get_or_from_slice_get}
use Rattle.od_constraint.specs.Rows.{zipped}
use Rattle.od_constraint.proofs.Lists.{taken_all}

-- a row whose first k truths were turned
abbrev pub turned : ℕ → List Bool → List Bool
turned zero xs = xs
turned (suc k) [] = []
turned (suc k) (x ∷ xs) = not x ∷ turned k xs

pub turned-there : (k : ℕ) (xs : List Bool) → slice_get (turned k xs) k ≡ slice_get xs k
turned-there zero xs = refl
turned-there (suc k) [] = refl
turned-there (suc k) (x ∷ xs) = turned-there k xs

pub turned-more : (k : ℕ) (xs : List Bool) (x : Bool) → slice_get xs k ≡ Some x → set (turned k xs) k (not x) ≡ turned (suc k) xs
turned-more k [] x e = absurd (cc)
turned-more zero (y ∷ xs) x e = let same : y ≡ x = cc in ap (λ z. not z ∷ xs) (sym same)
turned-more (suc k) (y ∷ xs) x e = ap (λ zs. not y ∷ zs) (turned-more k xs x e)

pub turned-all : (k : ℕ) (xs : List Bool) → length xs ≤ k → turned k xs ≡ map not xs
turned-all zero [] h = refl
turned-all (suc k) [] h = refl
turned-all zero (x ∷ xs) h = absurd (let g : suc (length xs) ≤ 0 = h in omega arith)
turned-all (suc k) (x ∷ xs) h = ap (λ zs. not x ∷ zs) (turned-all k xs (let g : suc (length xs) ≤ suc k = h in omega arith))

pub turned-step : (k : ℕ) (xs row : List Bool) → k < length xs → row ≡ turned k xs → set row k (not (get_or row k false)) ≡ turned (k + 1) xs
turned-step k xs row h e =
    let here : get_or row k false ≡ get_or xs k false = ap (λ r. get_or r k false) e ∙ get_or_from_slice_get (turned k xs) k (get_or xs k false) false (turned-there k xs ∙ slice_get-get_or xs k false h) in
    let next : k + 1 ≡ suc k = omega arith in
    ap (λ r. set r k (not (get_or row k false))) e ∙ ap (λ b. set (turned k xs) k (not b)) here
    ∙ turned-more k xs (get_or xs k false) (slice_get-get_or xs k false h) ∙ ap (λ n. turned n xs) (sym next)

pub turned-long : (k : ℕ) (xs : List Bool) → length (turned k xs) ≡ length xs
turned-long zero xs = refl
turned-long (suc k) [] = refl
turned-long (suc k) (x ∷ xs) = ap suc (turned-long k xs)

-- one more place of two rows that are joined
pub zipped-there : (f : Bool → Bool → Bool) (k : ℕ) (xs ys : List Bool) → slice_get (zipped f (take k xs) ys) k ≡ slice_get ys k
zipped-there f zero xs ys = refl
zipped-there f (suc k) [] ys = refl
zipped-there f (suc k) (x ∷ xs) [] = refl
zipped-there f (suc k) (x ∷ xs) (y ∷ ys) = zipped-there f k xs ys

pub zipped-more : (f : Bool → Bool → Bool) (k : ℕ) (xs ys : List Bool) (x y : Bool) → slice_get xs k ≡ Some x → slice_get ys k ≡ Some y → set (zipped f (take k xs) ys) k (f x y) ≡ zipped f (take (suc k) xs) ys
zipped-more f k [] ys x y d e = absurd (cc)
zipped-more f k (a ∷ xs) [] x y d e = absurd (cc)
zipped-more f zero (a ∷ xs) (b ∷ ys) x y d e = let one : a ≡ x = cc in let two : b ≡ y = cc in ap (λ z. f z y ∷ ys) (sym one) ∙ ap (λ z. f a z ∷ ys) (sym two)
zipped-more f (suc k) (a ∷ xs) (b ∷ ys) x y d e = ap (λ zs. f a b ∷ zs) (zipped-more f k xs ys x y d e)

pub zipped-past : (f : Bool → Bool → Bool) (k : ℕ) (xs ys : List Bool) → length xs ≤ k → zipped f (take k xs) ys ≡ zipped f (take (k + 1) xs) ys
zipped-past f k xs ys h = ap (λ zs. zipped f zs ys) (taken_all xs k h ∙ sym (taken_all xs (k + 1) (omega (arith, h))))

zipped-none : (f : Bool → Bool → Bool) (xs : List Bool) → zipped f xs [] ≡ []
zipped-none f [] = refl
zipped-none f (x ∷ xs) = refl

pub zipped-all : (f : Bool → Bool → Bool) (k : ℕ) (xs ys : List Bool) → length ys ≤ k → zipped f (take k xs) ys ≡ zipped f xs ys
zipped-all f zero [] ys h = refl
zipped-all f (suc k) [] ys h = refl
zipped-all f k (x ∷ xs) [] h = zipped-none f (take k (x ∷ xs))
zipped-all f zero (x ∷ xs) (y ∷ ys) h = absurd (let g : suc (length ys) ≤ 0 = h in omega arith)
zipped-all f (suc k) (x ∷ xs) (y ∷ ys) h = ap (λ zs. f x y ∷ zs) (zipped-all f k xs ys (let g : suc (length ys) ≤ suc k = h in omega arith))

pub zipped-long : (f : Bool → Bool → Bool) (xs ys : List Bool) → length (zipped f xs ys) ≡ length ys
zipped-long f [] ys = refl
zipped-long f (x ∷ xs) [] = refl
zipped-long f (x ∷ xs) (y ∷ ys) = ap suc (zipped-long f xs ys)

pub zipped-step : (f : Bool → Bool → Bool) (k : ℕ) (xs ys row : List Bool) → k < length xs → k < length row → row ≡ zipped f (take k xs) ys → set row k (f (get_or xs k false) (get_or row k false)) ≡ zipped f (take (k + 1) xs) ys
zipped-step f k xs ys row h i e =
    let long : length row ≡ length ys = ap length e ∙ zipped-long f (take k xs) ys in
    let j : k < length ys = omega (arith, long, i) in
    let here : get_or row k false ≡ get_or ys k false = ap (λ r. get_or r k false) e ∙ get_or_from_slice_get (zipped f (take k xs) ys) k (get_or ys k false) false (zipped-there f k xs ys ∙ slice_get-get_or ys k false j) in
    let next : k + 1 ≡ suc k = omega arith in
    ap (λ r. set r k (f (get_or xs k false) (get_or row k false))) e ∙ ap (λ b. set (zipped f (take k xs) ys) k (f (get_or xs k false) b)) here
    ∙ zipped-more f k xs ys (get_or xs k false) (get_or ys k false) (slice_get-get_or xs k false h) (slice_get-get_or ys k false j) ∙ ap (λ n. zipped f (take n xs) ys) (sym next)

-- one more token of a row
pub row_more : (F : ℕ → Bool) (old new : List Bool) (k : ℕ) (b : Bool) → new ≡ old ++ b ∷ [] → old ≡ map F (range_with_len 0 k) → b ≡ F k → new ≡ map F (range_with_len 0 (k + 1))
row_more F old new k b e r f =
    e ∙ ap (λ (r : List Bool). r ++ b ∷ []) r ∙ ap (λ (c : Bool). map F (range_with_len 0 k) ++ c ∷ []) f ∙ sym (map-range_with_len_more F 0 k k (omega arith))

-- a row that was written whole, in the place of the old one
pub written : (n : ℕ) (new old : List Bool) → n ≡ length new → take n (new ++ drop (length new) old) ≡ new
written n new old e = ap (λ (k : ℕ). take k (new ++ drop (length new) old)) e ∙ whole new (drop (length new) old)
  where
    whole : (xs ys : List Bool) → take (length xs) (xs ++ ys) ≡ xs
    whole [] ys = refl
    whole (x ∷ xs) ys = ap (λ (zs : List Bool). x ∷ zs) (whole xs ys)
