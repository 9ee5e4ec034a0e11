-- Cutting a text at the first place of a byte.
use Rattle.std.proofs.Common.{slice_index, ◌-◌, ◌≡◌, ℕ, suc, ◌+◌, ◌<◌, List, [], ◌∷◌, ◌++◌, length, take, drop, get_or, true, refl, sym, ap, ◌∙◌, subst, arith, None, Some, drop-cons, add-one, length-append}
use Rattle.std.specs.Prelude.{◌==◌, nat_lt, not}
use Rattle.std.specs.List.{list_all, position_or_len, before_first, after_first, slice_split}
use Rattle.std.proofs.lemmas.Bool.{ltb-true, lt-ltb, le-ltb, eqb-true, eq-eqb}
use Rattle.std.proofs.lemmas.List.{take-append-drop}
use Rattle.std.proofs.lemmas.List.Sums.{passes_at_first}
use Rattle.std.proofs.lemmas.List.Splits.{slice_split_first}
use Rattle.std.proofs.lemmas.Grind.{common_steps}
use Rattle.od_text.specs.Cuts.{split_once}
use Rattle.od_rule_text.proofs.Outcomes.{same_some, both, taken}

-- the parts of a cut, joined
pub cut_parts : (c : ℕ) (xs : List ℕ) (p : List ℕ × List ℕ) → split_once c xs ≡ Some p → xs ≡ p.0 ++ c ∷ p.1
cut_parts c xs p e =
    let at : ℕ = position_or_len (λ b. b == c) xs in
    let t = taken (nat_lt at (length xs)) (Some (before_first (λ b. b == c) xs, after_first (λ b. b == c) xs)) p e in
    let within : at < length xs = ltb-true at (length xs) t.0 in
    let found : get_or xs at 0 ≡ c = eqb-true _ _ (passes_at_first (λ b. b == c) xs 0 within) in
    let rest : drop at xs ≡ c ∷ drop (at + 1) xs = drop-cons xs at 0 within ∙ rw (found, add-one) refl in
    let parts : xs ≡ take at xs ++ c ∷ drop (at + 1) xs = sym (take-append-drop at xs) ∙ ap (λ ys. take at xs ++ ys) rest in
    subst (λ (q : List ℕ × List ℕ). xs ≡ q.0 ++ c ∷ q.1) (same_some _ _ p refl t.1) parts

-- that c is not among the elements
abbrev pub Avoids : ℕ → List ℕ → Type 0
Avoids c xs = list_all (λ x. not (x == c)) xs ≡ true

pub place : (c : ℕ) (a b : List ℕ) → Avoids c a → position_or_len (λ x. x == c) (a ++ c ∷ b) ≡ length a
place c [] b h = rw (eq-eqb c c refl) refl
place c (x ∷ a) b h =
    let t = both (not (x == c)) (list_all (λ y. not (y == c)) a) h in
    rw t.0 (omega (arith, place c a b t.1))

pub no_place : (c : ℕ) (xs : List ℕ) → Avoids c xs → position_or_len (λ x. x == c) xs ≡ length xs
no_place c [] h = refl
no_place c (x ∷ xs) h =
    let t = both (not (x == c)) (list_all (λ y. not (y == c)) xs) h in
    rw t.0 (omega (arith, no_place c xs t.1))

pub take_front : (a ys : List ℕ) → take (length a) (a ++ ys) ≡ a
take_front a ys = grind (arith, common_steps)

pub drop_front : (c : ℕ) (a b : List ℕ) → drop (length a + 1) (a ++ c ∷ b) ≡ b
drop_front c [] b = refl
drop_front c (x ∷ a) b =
    let one_more : length (x ∷ a) + 1 ≡ suc (length a + 1) = omega arith in
    rw one_more (drop_front c a b)

pub cut_at : (c : ℕ) (a b : List ℕ) → Avoids c a → split_once c (a ++ c ∷ b) ≡ Some (a, b)
cut_at c a b h = rw (place c a b h, lt-ltb (length a) (length (a ++ c ∷ b)) (omega (arith, length-append a (c ∷ b))), take_front a (c ∷ b), drop_front c a b) refl

pub uncut : (c : ℕ) (xs : List ℕ) → Avoids c xs → split_once c xs ≡ None
uncut c xs h = rw (no_place c xs h, le-ltb (length xs) (length xs) (omega arith)) refl

-- the first line, and the rest
pub split_line : (c : ℕ) (a b : List ℕ) → Avoids c a → slice_split (λ x. x == c) (a ++ c ∷ b) ≡ a ∷ slice_split (λ x. x == c) b
split_line c a b h =
    let at : position_or_len (λ x. x == c) (a ++ c ∷ b) ≡ length a = place c a b h in
    let within : position_or_len (λ x. x == c) (a ++ c ∷ b) < length (a ++ c ∷ b) = omega (arith, at, length-append a (c ∷ b)) in
    let front : before_first (λ x. x == c) (a ++ c ∷ b) ≡ a = rw at (take_front a (c ∷ b)) in
    let rest : after_first (λ x. x == c) (a ++ c ∷ b) ≡ b = rw at (drop_front c a b) in
    slice_split_first (λ x. x == c) (a ++ c ∷ b) 0 within ∙ rw (front, rest) refl

-- the last byte of a text
pub last_byte : (xs : List ℕ) (c : ℕ) → slice_index (xs ++ c ∷ []) (length (xs ++ c ∷ []) - 1) ≡ c
last_byte xs c =
    let at : length (xs ++ c ∷ []) - 1 ≡ length xs = omega (arith, length-append xs (c ∷ [])) in
    rw at (at_end xs c)
  where
    at_end : (xs : List ℕ) (c : ℕ) → get_or (xs ++ c ∷ []) (length xs) 0 ≡ c
    at_end [] c = refl
    at_end (x ∷ xs) c = at_end xs c
