-- Walks over all sentences below a size.
use Rattle.std.proofs.Common.{◌≡◌, ℕ, zero, suc, ◌+◌, ◌-◌, ◌<◌, ◌≤◌, Bool, true, false, cond, List, [], ◌∷◌, ◌++◌, filter, refl, sym, ap, ap₂, ◌∙◌, subst, arith, inl, inr}
use Rattle.std.proofs.lemmas.Bool.{cases_lt, eq-eqb, ne_eqb, lt-ltb, le-ltb, lt-leb, le-leb}
use Rattle.std.specs.Prelude.{◌==◌, ◌||◌, Option, Some, None, slice_get}
use Rattle.std.specs.List.{AllByRecursion, range_with_len}
use Rattle.std.specs.List.Sorted.{IsStrictlySortedBy}
use Rattle.std.specs.Ordering.{nat_cmp}
use Rattle.std.specs.declared.cmp.Ordering.TheVariants.{Less}
use Rattle.od_cursor.specs.Postings.{IsPostingList, from_sentence, pair_cmp}
use Rattle.od_search.proofs.Heads.{from-has}
use Rattle.od_search.specs.Posted.{has_posting}

-- numbers at which a test fails are passed
pub passed : (test : ℕ → Bool) (d from n count : ℕ) → count ≡ d + n → ((y : ℕ) → from ≤ y → y < from + d → test y ≡ false)
    → filter test (range_with_len from count) ≡ filter test (range_with_len (from + d) n)
passed test zero from n count e h =
    let c : count ≡ n = omega (arith, e) in
    let f : from ≡ from + 0 = omega arith in
    ap₂ (λ a b. filter test (range_with_len a b)) f c
passed test (suc d) from n zero e h = absurd (omega (arith, e))
passed test (suc d) from n (suc count) e h =
    let f : from + 1 + d ≡ from + suc d = omega arith in
    ap (λ b. cond b (from ∷ filter test (range_with_len (from + 1) count)) (filter test (range_with_len (from + 1) count))) (h from (omega arith) (omega arith))
    ∙ passed test d (from + 1) n count (omega (arith, e)) (λ y a b. h y (omega (arith, a)) (omega (arith, b)))
    ∙ ap (λ m. filter test (range_with_len m n)) f

-- up to a number, from another one
pub passed-to : (test : ℕ → Bool) (from to size : ℕ) → from ≤ to → to ≤ size → ((y : ℕ) → from ≤ y → y < to → test y ≡ false)
    → filter test (range_with_len from (size - from)) ≡ filter test (range_with_len to (size - to))
passed-to test from to size le within h =
    let e : from + (to - from) ≡ to = omega (arith, le) in
    passed test (to - from) from (size - to) (size - from) (omega (arith, le, within)) (λ y a b. h y a (omega (arith, b, e)))
    ∙ ap (λ m. filter test (range_with_len m (size - to))) e

-- a number at which it holds is taken
pub taken : (test : ℕ → Bool) (at size : ℕ) → at < size → test at ≡ true
    → filter test (range_with_len at (size - at)) ≡ at ∷ filter test (range_with_len (at + 1) (size - (at + 1)))
taken test at size lt h =
    let e : size - at ≡ suc (size - (at + 1)) = omega (arith, lt) in
    ap (λ n. filter test (range_with_len at n)) e
    ∙ ap (λ b. cond b (at ∷ filter test (range_with_len (at + 1) (size - (at + 1)))) (filter test (range_with_len (at + 1) (size - (at + 1))))) h

-- none is left
pub none-left : (test : ℕ → Bool) (from size : ℕ) → from ≤ size → ((y : ℕ) → from ≤ y → y < size → test y ≡ false) → filter test (range_with_len from (size - from)) ≡ []
none-left test from size le h =
    let z : size - size ≡ 0 = omega arith in
    passed-to test from size size le (omega arith) h ∙ ap (λ n. filter test (range_with_len size n)) z

-- ## A posting list

not-less : (a b : ℕ × ℕ) → pair_cmp a b ≡ Less → a.0 ≤ b.0
not-less a b e = elim (cases_lt b.0 a.0) [
  | inl lt ↦ let t = le-ltb a.0 b.0 (omega arith) in let u = ne_eqb a.0 b.0 (λ q. omega arith) in absurd (cc (rw (t, u) at e))
  | inr ge ↦ ge
]

behind-head : (y : ℕ) (p : ℕ × ℕ) (pairs : List (ℕ × ℕ)) → y < p.0 → AllByRecursion (λ q. pair_cmp p q ≡ Less) pairs → has_posting pairs y ≡ false
behind-head y p [] lt h = refl
behind-head y p (q ∷ pairs) lt h =
    let le : p.0 ≤ q.0 = not-less p q h.0 in
    let n : (q.0 == y) ≡ false = ne_eqb q.0 y (λ e. omega arith) in
    rw (n, behind-head y p pairs lt h.1) refl

-- before its head nothing stands in it
pub before-head : (y : ℕ) (pairs : List (ℕ × ℕ)) (p : ℕ × ℕ) → IsPostingList pairs → slice_get pairs 0 ≡ Some p → y < p.0 → has_posting pairs y ≡ false
unfolding IsStrictlySortedBy
before-head y [] p sorted at lt = refl
before-head y (q ∷ pairs) p sorted at lt =
    let same : q ≡ p = (let e : Some q ≡ Some p = at in cc) in
    let le : y < q.0 = subst (λ (r : ℕ × ℕ). y < r.0) (sym same) lt in
    let n : (q.0 == y) ≡ false = ne_eqb q.0 y (λ e. omega arith) in
    rw (n, behind-head y q pairs le sorted.0) refl

pub at-head : (pairs : List (ℕ × ℕ)) (p : ℕ × ℕ) → slice_get pairs 0 ≡ Some p → has_posting pairs p.0 ≡ true
at-head [] p at = absurd (let q : ◌≡◌ {A = Option (ℕ × ℕ)} None (Some p) = at in cc)
at-head (q ∷ pairs) p at =
    let same : q ≡ p = (let e : Some q ≡ Some p = at in cc) in
    let e : (q.0 == p.0) ≡ true = eq-eqb q.0 p.0 (ap (λ (r : ℕ × ℕ). r.0) same) in
    ap (λ b. b || has_posting pairs p.0) e

pub nothing-there : (y : ℕ) (pairs : List (ℕ × ℕ)) → slice_get pairs 0 ≡ None → has_posting pairs y ≡ false
nothing-there y [] at = refl
nothing-there y (q ∷ pairs) at = absurd (let e : ◌≡◌ {A = Option (ℕ × ℕ)} (Some q) None = at in cc)

-- from a number on a walk tells what the whole list does
abbrev pub TellsFrom : List (ℕ × ℕ) → List (ℕ × ℕ) → ℕ → Type 0
TellsFrom whole rest next = (y : ℕ) → next ≤ y → has_posting rest y ≡ has_posting whole y

pub tells-on : (whole rest : List (ℕ × ℕ)) (next : ℕ) → TellsFrom whole rest next → TellsFrom whole (from_sentence next rest) next
tells-on whole rest next h y le = from-has next y rest le ∙ h y le

-- the walk is at its end, or at a sentence that is too late
pub walk-ends : (whole pairs : List (ℕ × ℕ)) (next size : ℕ) → next ≤ size → TellsFrom whole pairs next → ((y : ℕ) → y < size → has_posting pairs y ≡ false)
    → filter (has_posting whole) (range_with_len next (size - next)) ≡ []
walk-ends whole pairs next size le tells none = none-left (has_posting whole) next size le (λ y a b. sym (tells y a) ∙ none y b)

-- it takes a sentence
pub walk-takes : (whole pairs : List (ℕ × ℕ)) (next size : ℕ) (p : ℕ × ℕ) → next ≤ p.0 → p.0 < size → TellsFrom whole pairs next → IsPostingList pairs → slice_get pairs 0 ≡ Some p
    → filter (has_posting whole) (range_with_len next (size - next)) ≡ p.0 ∷ filter (has_posting whole) (range_with_len (p.0 + 1) (size - (p.0 + 1)))
walk-takes whole pairs next size p le lt tells sorted at =
    passed-to (has_posting whole) next p.0 size le (omega (arith, lt)) (λ y a b. sym (tells y a) ∙ before-head y pairs p sorted at b)
    ∙ taken (has_posting whole) p.0 size lt (sym (tells p.0 le) ∙ at-head pairs p at)

-- what is left begins at the number or later
pub head-later : (next : ℕ) (rest : List (ℕ × ℕ)) (p : ℕ × ℕ) → slice_get (from_sentence next rest) 0 ≡ Some p → next ≤ p.0
head-later next [] p at = absurd (let q : ◌≡◌ {A = Option (ℕ × ℕ)} None (Some p) = at in cc)
head-later next (q ∷ rest) p at = elim (cases_lt q.0 next) [
  | inl lt ↦ head-later next rest p (rw (lt-leb next q.0 lt) at at)
  | inr ge ↦ let e : Some q ≡ Some p = (rw (le-leb next q.0 ge) at at) in
      let same : q ≡ p = cc in subst (λ (r : ℕ × ℕ). next ≤ r.0) same ge
]

-- ranges
pub range-more : (from n : ℕ) → range_with_len from (n + 1) ≡ range_with_len from n ++ (from + n) ∷ []
range-more from n = let q : suc n ≡ n + 1 = omega arith in subst (λ m. range_with_len from m ≡ range_with_len from n ++ (from + n) ∷ []) q (by from n)
  where
    by : (from n : ℕ) → range_with_len from (suc n) ≡ range_with_len from n ++ (from + n) ∷ []
    by from zero = let q : from ≡ from + 0 = omega arith in ap (λ m. m ∷ []) q
    by from (suc n) = let q : from + 1 + n ≡ from + suc n = omega arith in ap (λ xs. from ∷ xs) (by (from + 1) n ∙ ap (λ m. range_with_len (from + 1) n ++ m ∷ []) q)

later-range : (x from n : ℕ) → x < from → AllByRecursion (λ y. nat_cmp x y ≡ Less) (range_with_len from n)
later-range x from zero lt = tt
later-range x from (suc n) lt = (less x from lt, later-range x (from + 1) n (omega (arith, lt)))
  where
    less : (a b : ℕ) → a < b → nat_cmp a b ≡ Less
    less a b lt = rw (lt-ltb a b lt) refl

pub range-ascends : (from n : ℕ) → IsStrictlySortedBy nat_cmp (range_with_len from n)
unfolding IsStrictlySortedBy
range-ascends from zero = tt
range-ascends from (suc n) = (later-range from (from + 1) n (omega arith), range-ascends (from + 1) n)
