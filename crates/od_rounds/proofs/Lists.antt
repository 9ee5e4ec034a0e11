-- Lists of places, and what stands there.
use Rattle.std.proofs.Common.{◌≡◌, ℕ, zero, suc, ◌+◌, List, [], ◌∷◌, ◌++◌, length, map, take, flat_map, refl, sym, ap, ap₂, ◌∙◌, subst}
use Rattle.std.proofs.lemmas.List.{length-map, map-append, take_more}
use Rattle.std.proofs.lemmas.List.Concat.{flat_map-append}
use Rattle.std.proofs.lemmas.Option.{slice_get_within, slice_get-map, get_or_from_slice_get}
use Rattle.std.specs.Option.{option_to_list}
use Rattle.std.specs.Prelude.{Option, Some, IsSome, IsSomeAnd, slice_get, option_map}
use Rattle.od_text.specs.Lists.{Each}

-- what stands at places that all have something
pub named-all : {X Y : Type 0} (f : X → Option Y) (xs : List X) (ys : List Y) → map f xs ≡ map Some ys → flat_map (λ x. option_to_list (f x)) xs ≡ ys
named-all f [] [] e = refl
named-all f [] (y ∷ ys) e = absurd (cc)
named-all f (x ∷ xs) [] e = absurd (cc)
named-all f (x ∷ xs) (y ∷ ys) e =
    let here : f x ≡ Some y = cc in
    let rest : map f xs ≡ map Some ys = cc in
    ap₂ (λ o zs. option_to_list o ++ zs) here (named-all f xs ys rest)

pub there-all : {X Y : Type 0} (f : X → Option Y) (xs : List X) (ys : List Y) → map f xs ≡ map Some ys → Each (λ x. IsSome (f x)) xs
there-all f [] ys e = tt
there-all f (x ∷ xs) [] e = absurd (cc)
there-all f (x ∷ xs) (y ∷ ys) e =
    let here : f x ≡ Some y = cc in
    let rest : map f xs ≡ map Some ys = cc in
    (subst (λ o. IsSome o) (sym here) refl, there-all f xs ys rest)

pub counted : {X Y : Type 0} (f : X → Option Y) (xs : List X) (ys : List Y) → map f xs ≡ map Some ys → length xs ≡ length ys
counted f xs ys e = sym (length-map xs f) ∙ ap length e ∙ length-map ys Some

-- an element of all of which something holds
pub each-at : {X : Type 0} (P : X → Type 0) (xs : List X) (i : ℕ) (x : X) → Each P xs → slice_get xs i ≡ Some x → P x
each-at P [] i x all e = absurd (cc)
each-at P (y ∷ xs) zero x all e = let same : y ≡ x = cc in subst P same all.0
each-at P (y ∷ xs) (suc i) x all e = each-at P xs i x all.1 e

-- a list of lists, list by list
pub in-parts : {X Y Z : Type 0} (f : Y → List Z) (g : X → List Y) (xs : List X) → flat_map f (flat_map g xs) ≡ flat_map (λ x. flat_map f (g x)) xs
in-parts f g [] = refl
in-parts f g (x ∷ xs) = flat_map-append f (g x) (flat_map g xs) ∙ ap (λ zs. flat_map f (g x) ++ zs) (in-parts f g xs)

-- what stands in a list under a function, where both are known
pub mapped-is : {X Y : Type 0} (f : X → Y) (xs : List X) (ys : List Y) (i : ℕ) (x : X) (y : Y) → ys ≡ map f xs → slice_get xs i ≡ Some x → slice_get ys i ≡ Some y → y ≡ f x
mapped-is f xs ys i x y is at here =
    let e : Some y ≡ Some (f x) = sym here ∙ ap (λ zs. slice_get zs i) is ∙ slice_get-map f xs i ∙ ap (option_map f) at in
    cc

-- one element more of a list that is made from another
pub made-more : {X Y : Type 0} (f : X → Y) (xs : List X) (i : ℕ) (x : X) (y : Y) (ys more : List Y) → slice_get xs i ≡ Some x → y ≡ f x → ys ≡ map f (take i xs) → more ≡ ys ++ y ∷ []
    → more ≡ map f (take (i + 1) xs)
made-more f xs i x y ys more at same before is =
    is
    ∙ ap₂ (λ zs z. zs ++ z ∷ []) before same
    ∙ sym (map-append f (take i xs) (x ∷ []))
    ∙ ap (map f) (sym (take_more xs i x (slice_get_within xs i x at) ∙ ap (λ z. take i xs ++ z ∷ []) (get_or_from_slice_get xs i x x at)))

-- an element of which something is known, and one that is there
pub one-there : {X Y : Type 0} (f : X → Y) (xs : List X) (i : ℕ) (x : X) (y : Y) → slice_get xs i ≡ Some x → IsSomeAnd (slice_get xs i) (λ z. f z ≡ y) → f x ≡ y
one-there f xs i x y at h = subst (λ o. IsSomeAnd o (λ z. f z ≡ y)) at h
