-- Texts among others.
use Rattle.std.proofs.Common.{◌≡◌, ℕ, List, [], ◌∷◌, ◌++◌, position, Some, None, Bool, true, false, refl, sym, ap, ◌∙◌, subst, bytes_eq}
use Rattle.std.specs.Prelude.{◌||◌, ◌&&◌}
use Rattle.std.specs.Option.{is_some}
use Rattle.std.proofs.lemmas.List.Folds.{list_any-append}
use Rattle.std.proofs.lemmas.Slice.Eq.{bytes_eq-Decides}
use Rattle.od_names.proofs.Named.{is_some-position}
use Rattle.od_rule_text.specs.Texts.{is_among}

pub or_false : (a : Bool) → (a || false) ≡ a
or_false true = refl
or_false false = refl

pub or_true : (a : Bool) → (a || true) ≡ true
or_true true = refl
or_true false = refl

pub and_true : (a : Bool) → (a && true) ≡ a
and_true true = refl
and_true false = refl

pub neither : (a b : Bool) → (a || b) ≡ false → (a ≡ false) × (b ≡ false)
neither true b e = absurd (cc)
neither false b e = (refl, e)

pub same_text : (a b : List ℕ) → bytes_eq a b ≡ true → a ≡ b
same_text a b h = (bytes_eq-Decides a b).0 h

pub own_text : (a : List ℕ) → bytes_eq a a ≡ true
own_text a = (bytes_eq-Decides a a).1 refl

-- texts that differ differ the other way around
pub other_text : (a b : List ℕ) → bytes_eq b a ≡ false → bytes_eq a b ≡ false
other_text a b h = by (bytes_eq a b) refl
  where
    by : (t : Bool) → bytes_eq a b ≡ t → t ≡ false
    by false e = refl
    by true e =
        let own : bytes_eq b a ≡ true = subst (λ (z : List ℕ). bytes_eq z a ≡ true) (same_text a b e) (own_text a) in
        absurd (cc)

-- what has a place among texts is one of them
pub among_at : (names : List (List ℕ)) (name : List ℕ) (i : ℕ) → position (λ other. bytes_eq other name) names ≡ Some i → is_among names name ≡ true
among_at names name i e = sym (is_some-position (λ other. bytes_eq other name) names) ∙ ap is_some e

pub not_among : (names : List (List ℕ)) (name : List ℕ) → position (λ other. bytes_eq other name) names ≡ None → is_among names name ≡ false
not_among names name e = sym (is_some-position (λ other. bytes_eq other name) names) ∙ ap is_some e

-- one text more
pub among_more : (names : List (List ℕ)) (last name : List ℕ) → is_among (names ++ last ∷ []) name ≡ (is_among names name || bytes_eq last name)
among_more names last name =
    list_any-append (λ other. bytes_eq other name) names (last ∷ []) ∙ ap (λ b. is_among names name || b) (or_false (bytes_eq last name))
