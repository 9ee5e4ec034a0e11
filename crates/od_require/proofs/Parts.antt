-- Parts, one after another.
use Rattle.std.proofs.Common.{◌≡◌, ℕ, zero, suc, ◌+◌, ◌<◌, List, [], ◌∷◌, ◌++◌, length, map, take, sym, ◌∙◌, ap, arith, get_or, add-one, append_assoc, append-nil}
use Rattle.std.specs.List.{flat_map}

taken_next : {A B : Type 0} (f : A → List B) (xs : List A) (i : ℕ) (x : A) → i < length xs → x ≡ get_or xs i x
    → flat_map f (take (suc i) xs) ≡ flat_map f (take i xs) ++ f x
taken_next f [] i x h e = absurd (omega arith)
taken_next f (y ∷ xs) zero x h e = append-nil (f y) ∙ ap f (sym e)
taken_next f (y ∷ xs) (suc i) x h e =
    ap (λ z. f y ++ z) (taken_next f xs i x (omega arith) e) ∙ sym (append_assoc (f y) (flat_map f (take i xs)) (f x))

pub taken_more : {A B : Type 0} (f : A → List B) (xs : List A) (i : ℕ) (x : A) → i < length xs → x ≡ get_or xs i x
    → flat_map f (take (i + 1) xs) ≡ flat_map f (take i xs) ++ f x
taken_more f xs i x h e = rw add-one (taken_next f xs i x h e)

-- one element more
mapped_next : {A B : Type 0} (f : A → B) (xs : List A) (i : ℕ) (x : A) → i < length xs → x ≡ get_or xs i x
    → map f (take (suc i) xs) ≡ map f (take i xs) ++ f x ∷ []
mapped_next f [] i x h e = absurd (omega arith)
mapped_next f (y ∷ xs) zero x h e = ap (λ z. f z ∷ []) (sym e)
mapped_next f (y ∷ xs) (suc i) x h e = ap (λ z. f y ∷ z) (mapped_next f xs i x (omega arith) e)

pub mapped_more : {A B : Type 0} (f : A → B) (xs : List A) (i : ℕ) (x : A) → i < length xs → x ≡ get_or xs i x
    → map f (take (i + 1) xs) ≡ map f (take i xs) ++ f x ∷ []
mapped_more f xs i x h e = rw add-one (mapped_next f xs i x h e)
