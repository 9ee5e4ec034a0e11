-- Filters of ascending sentences.
use Rattle.std.proofs.Common.{◌≡◌, ℕ, zero, suc, ◌+◌, ◌-◌, ◌<◌, ◌≤◌, Bool, true, false, cond, List, [], ◌∷◌, ◌++◌, length, take, drop, filter, refl, sym, ap, ap₂, ◌∙◌, arith, inl, inr}
use Rattle.std.proofs.lemmas.Bool.{cases_lt, lt-ltb, le-ltb, ne_eqb, eq-eqb, cases_eq}
use Rattle.std.specs.Prelude.{◌&&◌, ◌||◌, ◌==◌, ◌⊎◌}
use Rattle.std.specs.List.{AllByRecursion}
use Rattle.std.specs.List.Sorted.{IsStrictlySortedBy}
use Rattle.std.specs.Ordering.{nat_cmp}
use Rattle.std.specs.declared.cmp.Ordering.TheVariants.{Less}
use Rattle.od_plan.specs.Found.{merged}

-- none is kept
pub none-kept : (test : ℕ → Bool) → ((x : ℕ) → test x ≡ false) → (xs : List ℕ) → [] ≡ filter test xs
none-kept test h [] = refl
none-kept test h (x ∷ xs) = none-kept test h xs ∙ ap (λ b. cond b (x ∷ filter test xs) (filter test xs)) (sym (h x))

-- all are kept
pub all-kept : (test : ℕ → Bool) → ((x : ℕ) → test x ≡ true) → (xs : List ℕ) → xs ≡ filter test xs
all-kept test h [] = refl
all-kept test h (x ∷ xs) = ap (λ ys. x ∷ ys) (all-kept test h xs) ∙ ap (λ b. cond b (x ∷ filter test xs) (filter test xs)) (sym (h x))

-- one test after another
pub both-kept : (p q : ℕ → Bool) (xs : List ℕ) → filter q (filter p xs) ≡ filter (λ x. p x && q x) xs
both-kept p q [] = refl
both-kept p q (x ∷ xs) = step (p x) (both-kept p q xs)
  where
    step : (b : Bool) → filter q (filter p xs) ≡ filter (λ x. p x && q x) xs
        → filter q (cond b (x ∷ filter p xs) (filter p xs)) ≡ cond (b && q x) (x ∷ filter (λ x. p x && q x) xs) (filter (λ x. p x && q x) xs)
    step true e = ap (λ ys. cond (q x) (x ∷ ys) ys) e
    step false e = e

-- tests that agree
pub same-kept : (p q : ℕ → Bool) → ((x : ℕ) → p x ≡ q x) → (xs : List ℕ) → filter p xs ≡ filter q xs
same-kept p q h [] = refl
same-kept p q h (x ∷ xs) = ap₂ (λ b ys. cond b (x ∷ ys) ys) (h x) (same-kept p q h xs)

-- what is kept ascends as before
later-kept : (x : ℕ) (test : ℕ → Bool) (ys : List ℕ) → AllByRecursion (λ y. nat_cmp x y ≡ Less) ys → AllByRecursion (λ y. nat_cmp x y ≡ Less) (filter test ys)
later-kept x test [] h = tt
later-kept x test (y ∷ ys) h = step (test y) (later-kept x test ys h.1)
  where
    step : (b : Bool) → AllByRecursion (λ y. nat_cmp x y ≡ Less) (filter test ys) → AllByRecursion (λ y. nat_cmp x y ≡ Less) (cond b (y ∷ filter test ys) (filter test ys))
    step true k = (h.0, k)
    step false k = k

pub kept-ascends : (test : ℕ → Bool) (xs : List ℕ) → IsStrictlySortedBy nat_cmp xs → IsStrictlySortedBy nat_cmp (filter test xs)
unfolding IsStrictlySortedBy
kept-ascends test [] h = tt
kept-ascends test (x ∷ xs) h = step (test x) (kept-ascends test xs h.1)
  where
    step : (b : Bool) → IsStrictlySortedBy nat_cmp (filter test xs) → IsStrictlySortedBy nat_cmp (cond b (x ∷ filter test xs) (filter test xs))
    step true k = (later-kept x test xs h.0, k)
    step false k = k

-- ## Two filters, merged

less-nat : (a b : ℕ) → nat_cmp a b ≡ Less → a < b
less-nat a b e = elim (cases_lt a b) [
  | inl lt ↦ lt
  | inr ge ↦ elim (cases_eq a b) [
    | inl q ↦ absurd (cc (rw (le-ltb a b ge, eq-eqb a b q) at e))
    | inr q ↦ absurd (cc (rw (le-ltb a b ge, ne_eqb a b q) at e))
  ]
]

merged-none : (xs : List ℕ) → merged xs [] ≡ xs
merged-none [] = refl
merged-none (x ∷ xs) = refl

first-left : (x : ℕ) (xs ys : List ℕ) → AllByRecursion (λ y. nat_cmp x y ≡ Less) ys → merged (x ∷ xs) ys ≡ x ∷ merged xs ys
first-left x xs [] h = ap (λ zs. x ∷ zs) (sym (merged-none xs))
first-left x xs (y ∷ ys) h = ap (λ b. cond b (x ∷ merged xs (y ∷ ys)) (cond (x == y) (x ∷ merged xs ys) (y ∷ merged (x ∷ xs) ys))) (lt-ltb x y (less-nat x y h.0))

first-right : (x : ℕ) (xs ys : List ℕ) → AllByRecursion (λ y. nat_cmp x y ≡ Less) xs → merged xs (x ∷ ys) ≡ x ∷ merged xs ys
first-right x [] ys h = refl
first-right x (y ∷ xs) ys h =
    let lt : x < y = less-nat x y h.0 in
    ap₂ (λ b d. cond b (y ∷ merged xs (x ∷ ys)) (cond d (y ∷ merged xs ys) (x ∷ merged (y ∷ xs) ys))) (le-ltb y x (omega arith)) (ne_eqb y x (λ e. omega arith))

first-both : (x : ℕ) (xs ys : List ℕ) → merged (x ∷ xs) (x ∷ ys) ≡ x ∷ merged xs ys
first-both x xs ys =
    ap₂ (λ b d. cond b (x ∷ merged xs (x ∷ ys)) (cond d (x ∷ merged xs ys) (x ∷ merged (x ∷ xs) ys))) (le-ltb x x (omega arith)) (eq-eqb x x refl)

pub merged-kept : (p q : ℕ → Bool) (xs : List ℕ) → IsStrictlySortedBy nat_cmp xs → merged (filter p xs) (filter q xs) ≡ filter (λ x. p x || q x) xs
unfolding IsStrictlySortedBy
merged-kept p q [] h = refl
merged-kept p q (x ∷ xs) h = step (p x) (q x) (merged-kept p q xs h.1) (later-kept x p xs h.0) (later-kept x q xs h.0)
  where
    step : (b d : Bool) → merged (filter p xs) (filter q xs) ≡ filter (λ x. p x || q x) xs
        → AllByRecursion (λ y. nat_cmp x y ≡ Less) (filter p xs) → AllByRecursion (λ y. nat_cmp x y ≡ Less) (filter q xs)
        → merged (cond b (x ∷ filter p xs) (filter p xs)) (cond d (x ∷ filter q xs) (filter q xs)) ≡ cond (b || d) (x ∷ filter (λ x. p x || q x) xs) (filter (λ x. p x || q x) xs)
    step true true e k l = first-both x (filter p xs) (filter q xs) ∙ ap (λ ys. x ∷ ys) e
    step true false e k l = first-left x (filter p xs) (filter q xs) l ∙ ap (λ ys. x ∷ ys) e
    step false true e k l = first-right x (filter p xs) (filter q xs) k ∙ ap (λ ys. x ∷ ys) e
    step false false e k l = e

-- where one of two lists is at its end
pub merged-end : (xs ys : List ℕ) (i j : ℕ) → (length xs ≤ i) ⊎ (length ys ≤ j) → merged (drop i xs) (drop j ys) ≡ drop i xs ++ drop j ys
merged-end xs ys i j (inl h) = ap (λ zs. merged zs (drop j ys)) (ended xs i h) ∙ sym (ap (λ zs. zs ++ drop j ys) (ended xs i h))
  where
    ended : (xs : List ℕ) (i : ℕ) → length xs ≤ i → drop i xs ≡ []
    ended [] zero h = refl
    ended [] (suc i) h = refl
    ended (x ∷ xs) zero h = absurd (omega (arith, h))
    ended (x ∷ xs) (suc i) h = ended xs i (omega (arith, h))
merged-end xs ys i j (inr h) = ap (merged (drop i xs)) (ended ys j h) ∙ merged-none (drop i xs) ∙ sym (append_nil (drop i xs)) ∙ sym (ap (λ zs. drop i xs ++ zs) (ended ys j h))
  where
    ended : (xs : List ℕ) (i : ℕ) → length xs ≤ i → drop i xs ≡ []
    ended [] zero h = refl
    ended [] (suc i) h = refl
    ended (x ∷ xs) zero h = absurd (omega (arith, h))
    ended (x ∷ xs) (suc i) h = ended xs i (omega (arith, h))

    append_nil : (xs : List ℕ) → xs ++ [] ≡ xs
    append_nil [] = refl
    append_nil (x ∷ xs) = ap (λ zs. x ∷ zs) (append_nil xs)

take-whole : (ys : List ℕ) (n : ℕ) → length ys ≤ n → take n ys ≡ ys
take-whole [] zero h = refl
take-whole [] (suc n) h = refl
take-whole (y ∷ ys) zero h = absurd (omega (arith, h))
take-whole (y ∷ ys) (suc n) h = ap (λ zs. y ∷ zs) (take-whole ys n (omega (arith, h)))

long-rest : (xs : List ℕ) (i : ℕ) → i ≤ length xs → length (drop i xs) + i ≤ length xs
long-rest xs zero h = omega arith
long-rest [] (suc i) h = absurd (omega (arith, h))
long-rest (x ∷ xs) (suc i) h = omega (arith, long-rest xs i (omega (arith, h)))

-- the rest of a list up to its end
pub rest-whole : (xs : List ℕ) (i : ℕ) → i ≤ length xs → take (length xs - i) (drop i xs) ≡ drop i xs
rest-whole xs i h = take-whole (drop i xs) (length xs - i) (omega (arith, long-rest xs i h, h))
