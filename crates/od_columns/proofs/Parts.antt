-- What parts ask, one after another.
use Rattle.std.proofs.Common.{◌≡◌, ℕ, zero, suc, ◌+◌, ◌<◌, List, [], ◌∷◌, ◌++◌, length, map, take, sym, ◌∙◌, ap, subst, arith, get_or, add-one, append_assoc, append-nil}
use Rattle.std.proofs.lemmas.List.{map-append}
use Rattle.std.specs.List.{flat_map}
use Rattle.od_asked.specs.Expressions.{expressions_at, expressions_of}
use Rattle.od_columns.specs.Lent.{all_lent, lent}
use Rattle.od_columns.specs.declared.asks.Asking.{Asking}
use Rattle.od_text.proofs.Lists.{Each-left, Each-right}
use Rattle.od_text.specs.Lists.{Each}

-- one part more
taken_next : {A B : Type 0} (f : A → List B) (xs : List A) (i : ℕ) (x : A) → i < length xs → x ≡ get_or xs i x
    → flat_map f (take (suc i) xs) ≡ flat_map f (take i xs) ++ f x
taken_next f [] i x h e = absurd (omega arith)
taken_next f (y ∷ xs) zero x h e = append-nil (f y) ∙ ap f (sym e)
taken_next f (y ∷ xs) (suc i) x h e =
    ap (λ z. f y ++ z) (taken_next f xs i x (omega arith) e) ∙ sym (append_assoc (f y) (flat_map f (take i xs)) (f x))

pub taken_more : {A B : Type 0} (f : A → List B) (xs : List A) (i : ℕ) (x : A) → i < length xs → x ≡ get_or xs i x
    → flat_map f (take (i + 1) xs) ≡ flat_map f (take i xs) ++ f x
taken_more f xs i x h e = rw add-one (taken_next f xs i x h e)

-- one element more, in two lists that are made alike
mapped_next : {A B : Type 0} (f : A → B) (xs : List A) (i : ℕ) (x : A) → i < length xs → x ≡ get_or xs i x
    → map f (take (suc i) xs) ≡ map f (take i xs) ++ f x ∷ []
mapped_next f [] i x h e = absurd (omega arith)
mapped_next f (y ∷ xs) zero x h e = ap (λ z. f z ∷ []) (sym e)
mapped_next f (y ∷ xs) (suc i) x h e = ap (λ z. f y ∷ z) (mapped_next f xs i x (omega arith) e)

pub mapped_more : {A B C : Type 0} (f : A → C) (g : B → C) (xs : List A) (ys : List B) (i : ℕ) (x : A) (y : B)
    → map f xs ≡ map g (take i ys) → i < length ys → y ≡ get_or ys i y → f x ≡ g y
    → map f (xs ++ x ∷ []) ≡ map g (take (i + 1) ys)
mapped_more f g xs ys i x y before h e same =
    map-append f xs (x ∷ []) ∙ ap (λ z. z ++ f x ∷ []) before ∙ ap (λ z. map g (take i ys) ++ z ∷ []) same
    ∙ sym (rw add-one (mapped_next g ys i y h e))

-- what holds of the expressions of all that is asked holds of those of each
pub asked_each : (P : List ℕ → Type 0) (asked : List Asking) (i : ℕ) (x : Asking) → i < length asked → x ≡ get_or asked i x
    → Each P (expressions_of (all_lent asked)) → Each P (expressions_at (lent x))
asked_each P [] i x h e all = absurd (omega arith)
asked_each P (y ∷ asked) zero x h e all =
    subst (λ (z : Asking). Each P (expressions_at (lent z))) (sym e)
    (Each-left P (expressions_at (lent y)) (expressions_of (all_lent asked)) all)
asked_each P (y ∷ asked) (suc i) x h e all =
    asked_each P asked i x (omega arith) e (Each-right P (expressions_at (lent y)) (expressions_of (all_lent asked)) all)
