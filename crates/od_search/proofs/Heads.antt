-- The head of a posting list that begins at a sentence tells whether that stands in the list.
use Rattle.std.proofs.Common.{◌≡◌, ℕ, zero, suc, ◌+◌, ◌<◌, ◌≤◌, Bool, true, false, cond, List, [], ◌∷◌, ◌++◌, take, drop, length, refl, sym, ap, ◌∙◌, subst, arith, inl, inr}
use Rattle.std.proofs.lemmas.Bool.{cases_lt, lt-ltb, le-ltb, lt-leb, le-leb, eq-eqb, ne_eqb, cases_Bool, cases_eq}
use Rattle.std.specs.List.{list_any, AllByRecursion}
use Rattle.std.specs.List.Sorted.{IsStrictlySortedBy}
use Rattle.std.specs.Ordering.{nat_cmp}
use Rattle.std.specs.Prelude.{◌==◌, ◌||◌, filter, nat_le, Option, Some, None, slice_get}
use Rattle.std.specs.declared.cmp.Ordering.TheVariants.{Less}
use Rattle.od_cursor.specs.Postings.{pair_cmp, IsPostingList, from_sentence}
use Rattle.od_search.specs.Posted.{has_posting}

-- the first sentence is this one
abbrev pub begins_with : ℕ → Option (ℕ × ℕ) → Bool
begins_with sentence None = false
begins_with sentence (Some p) = p.0 == sentence

false-eq : (a b : ℕ) → a < b → (b == a) ≡ false
false-eq a b h = ne_eqb b a (λ e. omega arith)

not-less : (a b : ℕ × ℕ) → pair_cmp a b ≡ Less → a.0 ≤ b.0
not-less a b e = elim (cases_lt b.0 a.0) [
  | inl lt ↦ let t = le-ltb a.0 b.0 (omega arith) in let u = ne_eqb a.0 b.0 (λ q. omega arith) in absurd (cc (rw (t, u) at e))
  | inr ge ↦ ge
]

-- behind a pair of a later sentence the sentence does not stand
none-behind : (x : ℕ) (p : ℕ × ℕ) (pairs : List (ℕ × ℕ)) → x < p.0 → AllByRecursion (λ q. pair_cmp p q ≡ Less) pairs → has_posting pairs x ≡ false
none-behind x p [] lt h = refl
none-behind x p (q ∷ pairs) lt h =
    let le : p.0 ≤ q.0 = not-less p q h.0 in
    rw (false-eq x q.0 (omega arith), none-behind x p pairs lt h.1) refl

-- what begins at a sentence has it and later ones as before
pub from-has : (x y : ℕ) (pairs : List (ℕ × ℕ)) → x ≤ y → has_posting (from_sentence x pairs) y ≡ has_posting pairs y
from-has x y [] le = refl
from-has x y (p ∷ pairs) le = elim (cases_lt p.0 x) [
  | inl lt ↦ rw (lt-leb x p.0 lt, ne_eqb p.0 y (λ e. omega arith)) (from-has x y pairs le)
  | inr ge ↦ rw (le-leb x p.0 ge) (ap (λ b. (p.0 == y) || b) (from-has x y pairs le))
]

-- all of it are of the sentence or later
from-later : (x : ℕ) (pairs : List (ℕ × ℕ)) → AllByRecursion (λ p. x ≤ p.0) (from_sentence x pairs)
from-later x [] = tt
from-later x (p ∷ pairs) = elim (cases_lt p.0 x) [
  | inl lt ↦ rw (lt-leb x p.0 lt) (from-later x pairs)
  | inr ge ↦ rw (le-leb x p.0 ge) (ge, from-later x pairs)
]

head-has : (x : ℕ) (pairs : List (ℕ × ℕ)) → IsPostingList pairs → AllByRecursion (λ p. x ≤ p.0) pairs → begins_with x (slice_get pairs 0) ≡ has_posting pairs x
unfolding IsStrictlySortedBy
head-has x [] sorted late = refl
head-has x (p ∷ pairs) sorted late = elim (cases_eq p.0 x) [
  | inl e ↦ rw (eq-eqb p.0 x e) refl
  | inr ne ↦ rw (ne_eqb p.0 x ne) (sym (none-behind x p pairs (omega (arith, late.0)) sorted.0))
]

-- the head of what begins there tells whether it stands in the list
pub head-tells : (x : ℕ) (pairs : List (ℕ × ℕ)) → IsPostingList (from_sentence x pairs) → begins_with x (slice_get (from_sentence x pairs) 0) ≡ has_posting pairs x
head-tells x pairs sorted = head-has x (from_sentence x pairs) sorted (from-later x pairs) ∙ from-has x x pairs (omega arith)

-- ## Sentences one after another

-- a walk that has come so far tells the same of what is left
abbrev pub Agrees : List (ℕ × ℕ) → List (ℕ × ℕ) → List ℕ → Type 0
Agrees whole rest xs = AllByRecursion (λ x. has_posting rest x ≡ has_posting whole x) xs

pub agrees-at-first : (whole : List (ℕ × ℕ)) (xs : List ℕ) → Agrees whole whole xs
agrees-at-first whole [] = tt
agrees-at-first whole (x ∷ xs) = (refl, agrees-at-first whole xs)

less-nat : (a b : ℕ) → nat_cmp a b ≡ Less → a < b
less-nat a b e = elim (cases_lt a b) [
  | inl lt ↦ lt
  | inr ge ↦ elim (cases_eq a b) [
    | inl q ↦ absurd (cc (rw (le-ltb a b ge, eq-eqb a b q) at e))
    | inr q ↦ absurd (cc (rw (le-ltb a b ge, ne_eqb a b q) at e))
  ]
]

agrees-later : (whole rest : List (ℕ × ℕ)) (x : ℕ) (xs : List ℕ) → AllByRecursion (λ y. nat_cmp x y ≡ Less) xs → Agrees whole rest xs → Agrees whole (from_sentence x rest) xs
agrees-later whole rest x [] h k = tt
agrees-later whole rest x (y ∷ xs) h k =
    let lt : x < y = less-nat x y h.0 in
    (from-has x y rest (omega arith) ∙ k.0, agrees-later whole rest x xs h.1 k.1)

-- the sentence at a place, and what is left behind it
at-next : (whole rest : List (ℕ × ℕ)) (xs : List ℕ) (i x : ℕ) → IsStrictlySortedBy nat_cmp xs → slice_get xs i ≡ Some x → Agrees whole rest (drop i xs)
    → (has_posting rest x ≡ has_posting whole x) × Agrees whole (from_sentence x rest) (drop (suc i) xs)
unfolding IsStrictlySortedBy
at-next whole rest [] i x sorted at h = absurd (let q : ◌≡◌ {A = Option ℕ} None (Some x) = at in cc)
at-next whole rest (y ∷ xs) zero x sorted at h =
    let e : y ≡ x = (let q : Some y ≡ Some x = at in cc) in
    (subst (λ z. has_posting rest z ≡ has_posting whole z) e h.0, subst (λ z. Agrees whole (from_sentence z rest) xs) e (agrees-later whole rest y xs sorted.0 h.1))
at-next whole rest (y ∷ xs) (suc i) x sorted at h = at-next whole rest xs i x sorted.1 at h

pub at-place : (whole rest : List (ℕ × ℕ)) (xs : List ℕ) (i x : ℕ) → IsStrictlySortedBy nat_cmp xs → slice_get xs i ≡ Some x → Agrees whole rest (drop i xs)
    → (has_posting rest x ≡ has_posting whole x) × Agrees whole (from_sentence x rest) (drop (i + 1) xs)
at-place whole rest xs i x sorted at h =
    let next = at-next whole rest xs i x sorted at h in let e : suc i ≡ i + 1 = omega arith in (next.0, subst (λ n. Agrees whole (from_sentence x rest) (drop n xs)) e next.1)

-- a filter goes on by one
filter-next : {X : Type 0} (test : X → Bool) (xs : List X) (i : ℕ) (x : X) → slice_get xs i ≡ Some x → filter test (take (suc i) xs) ≡ filter test (take i xs) ++ cond (test x) (x ∷ []) []
filter-next test [] i x at = absurd (let q : ◌≡◌ {A = Option _} None (Some x) = at in cc)
filter-next {X = X} test (y ∷ xs) zero x at =
    let e : y ≡ x = (let q : Some y ≡ Some x = at in cc) in ap (λ z. cond (test z) (z ∷ []) []) e
filter-next {X = X} test (y ∷ xs) (suc i) x at = step (test y) (filter-next test xs i x at)
  where
    step : (b : Bool) → filter test (take (suc i) xs) ≡ filter test (take i xs) ++ cond (test x) (x ∷ []) []
        → cond b (y ∷ filter test (take (suc i) xs)) (filter test (take (suc i) xs)) ≡ cond b (y ∷ filter test (take i xs)) (filter test (take i xs)) ++ cond (test x) (x ∷ []) []
    step true e = ap (λ ys. y ∷ ys) e
    step false e = e

pub filter-more : {X : Type 0} (test : X → Bool) (xs : List X) (i : ℕ) (x : X) → slice_get xs i ≡ Some x → filter test (take (i + 1) xs) ≡ filter test (take i xs) ++ cond (test x) (x ∷ []) []
filter-more test xs i x at = let e : suc i ≡ i + 1 = omega arith in subst (λ n. filter test (take n xs) ≡ filter test (take i xs) ++ cond (test x) (x ∷ []) []) e (filter-next test xs i x at)
