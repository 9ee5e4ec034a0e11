-- Turns of a set of tokens, and how many are enough.
use Rattle.std.proofs.Common.{◌≡◌, ℕ, zero, suc, ◌+◌, ◌<◌, ◌≤◌, Bool, true, false, refl, sym, ◌∙◌, ap, subst, inl, inr, arith}
use Rattle.std.proofs.lemmas.Bool.{cases_lt, or_cases}
use mathlib.Core.Path.{fun_ext}
use Rattle.std.specs.Prelude.{◌||◌, cond}
use Rattle.od_matching.specs.Matching.Reach.{Link, Set, Turned, union, turned, spread}
use Rattle.od_matching.proofs.Matching.Tests.{or_left, or_right}

-- each element is below n
abbrev pub Under : ℕ → Set → Type 0
Under n marked = (k : ℕ) → marked k ≡ true → k < n

-- what the set has comes from a marked token
abbrev pub Sound : (Set → Set) → Link → Type 0
Sound f A = (marked : Set) (b : ℕ) → f marked b ≡ true → (a : ℕ) × (marked a ≡ true) × A a b

-- what comes from a marked token is in the set
abbrev pub Complete : ℕ → (Set → Set) → Link → Type 0
Complete n f A = (marked : Set) (a b : ℕ) → Under n marked → marked a ≡ true → A a b → f marked b ≡ true

-- a link from a token of the sentence leads to a token of the sentence
abbrev pub Keeps : ℕ → Link → Type 0
Keeps n A = (a b : ℕ) → a < n → A a b → b < n

-- sets of tokens stay so
pub under_after : (n : ℕ) (f : Set → Set) (A : Link) → Sound f A → Keeps n A → (marked : Set) → Under n marked → Under n (f marked)
under_after n f A sound keeps marked under k e =
    let r = sound marked k e in keeps r.0 k (under r.0 r.1) r.2

pub under_union : (n : ℕ) (x y : Set) → Under n x → Under n y → Under n (union x y)
under_union n x y ux uy k e = elim (or_cases (x k) (y k) e) [ inl h ↦ ux k h | inr h ↦ uy k h ]

-- some turns and then some more
pub turned_add : (A : Link) (m k n : ℕ) (a c b : ℕ) → n ≡ m + k → Turned A m a c → Turned A k c b → Turned A n a b
turned_add A zero k n a c b e t u =
    let same : k ≡ n = omega arith in
    subst (λ (z : ℕ). Turned A z a b) same (subst (λ (z : ℕ). Turned A k z b) t u)
turned_add A (suc m) k zero a c b e t u = absurd (omega arith)
turned_add A (suc m) k (suc n) a c b e t u = (t.0, t.1, turned_add A m k n t.0 c b (omega arith) t.2 u)

-- turns keep to the sentence
pub keeps_turned : (n : ℕ) (A : Link) → Keeps n A → (k : ℕ) → Keeps n (Turned A k)
keeps_turned n A keeps zero a b h t = let e : b ≡ a = t in omega arith
keeps_turned n A keeps (suc k) a b h t = keeps_turned n A keeps k t.0 b (keeps a t.0 h t.1) t.2

module _ (f : Set → Set) (A : Link) (sound : Sound f A) where
  -- what so many turns reach comes over so many links
  pub sound-turned : (n : ℕ) → Sound (turned f n) (Turned A n)
  sound-turned zero marked b e = (b, e, refl)
  sound-turned (suc n) marked b e =
      let r = sound-turned n (f marked) b e in
      let q = sound marked r.0 r.1 in
      (q.0, q.1, (r.0, q.2, r.2))

  -- what up to so many turns reach comes over at most so many links
  pub sound-spread : (n : ℕ) (marked : Set) (b : ℕ) → spread f n marked b ≡ true → (a : ℕ) × (marked a ≡ true) × (k : ℕ) × (k ≤ n) × Turned A k a b
  sound-spread zero marked b e = (b, e, zero, omega arith, refl)
  sound-spread (suc n) marked b e =
      let r = sound-spread n (union marked (f marked)) b e in
      let le : r.2 ≤ n = r.3 in
      elim (or_cases (marked r.0) (f marked r.0) r.1) [
        | inl h ↦ (r.0, h, r.2, omega arith, r.4)
        | inr h ↦ let q = sound marked r.0 h in (q.0, q.1, suc r.2, omega arith, (r.0, q.2, r.4))
      ]

-- a spread keeps what it has
pub spread_keeps : (f : Set → Set) (n : ℕ) (marked : Set) (b : ℕ) → marked b ≡ true → spread f n marked b ≡ true
spread_keeps f zero marked b e = e
spread_keeps f (suc n) marked b e = spread_keeps f n (union marked (f marked)) b (or_left (marked b) (f marked b) e)

module _ (n : ℕ) (f : Set → Set) (A : Link) (sound : Sound f A) (complete : Complete n f A) (keeps : Keeps n A) where
  -- and the other way round
  pub complete-turned : (k : ℕ) → Complete n (turned f k) (Turned A k)
  complete-turned zero marked a b under e t = let same : b ≡ a = t in subst (λ (z : ℕ). marked z ≡ true) (sym same) e
  complete-turned (suc k) marked a b under e t =
      complete-turned k (f marked) t.0 b (under_after n f A sound keeps marked under) (complete marked a t.0 under e t.1) t.2

  -- one more turn keeps to the sentence
  under_spread : (marked : Set) → Under n marked → Under n (union marked (f marked))
  under_spread marked under = under_union n marked (f marked) under (under_after n f A sound keeps marked under)

  -- and the other way round
  pub complete-spread : (m : ℕ) (marked : Set) (a b k : ℕ) → Under n marked → marked a ≡ true → k ≤ m → Turned A k a b → spread f m marked b ≡ true
  complete-spread m marked a b zero under e le t = spread_keeps f m marked b (let same : b ≡ a = t in subst (λ (z : ℕ). marked z ≡ true) (sym same) e)
  complete-spread zero marked a b (suc k) under e le t = absurd (omega arith)
  complete-spread (suc m) marked a b (suc k) under e le t =
      complete-spread m (union marked (f marked)) t.0 b k (under_spread marked under)
      (or_right (marked t.0) (f marked t.0) (complete marked a t.0 under e t.1)) (omega arith) t.2

-- how many numbers below n are in the set
abbrev pub count : ℕ → Set → ℕ
count zero marked = 0
count (suc n) marked = cond (marked n) 1 0 + count n marked

-- one number counts at most one
count_at : (b : Bool) → cond b 1 0 ≤ 1
count_at true = omega arith
count_at false = omega arith

-- a set has at most as many numbers below n as there are
pub count_le : (n : ℕ) (marked : Set) → count n marked ≤ n
count_le zero marked = omega arith
count_le (suc n) marked = omega (arith, count_le n marked, count_at (marked n))

weight_grows : (x y : Bool) → (x ≡ true → y ≡ true) → cond x 1 0 ≤ cond y 1 0
weight_grows false y h = omega arith
weight_grows true y h = let e : y ≡ true = h refl in rw e (omega arith)

-- a larger set counts at least as much
pub count_grows : (n : ℕ) (x y : Set) → ((k : ℕ) → x k ≡ true → y k ≡ true) → count n x ≤ count n y
count_grows zero x y h = omega arith
count_grows (suc n) x y h = omega (arith, count_grows n x y h, weight_grows (x n) (y n) (h n))

-- where no more is counted nothing is added
weight_same : (x y : Bool) → cond y 1 0 ≤ cond x 1 0 → y ≡ true → x ≡ true
weight_same true y h e = refl
weight_same false true h e = absurd (omega arith)
weight_same false false h e = e

-- a set with no fewer elements than one that has all of its own is the same below n
pub count_same : (n : ℕ) (x y : Set) → ((k : ℕ) → x k ≡ true → y k ≡ true) → count n y ≤ count n x → (k : ℕ) → k < n → y k ≡ true → x k ≡ true
count_same zero x y h le k lt e = absurd (omega arith)
count_same (suc n) x y h le k lt e =
    let a : count n x ≤ count n y = count_grows n x y h in
    let b : cond (x n) 1 0 ≤ cond (y n) 1 0 = weight_grows (x n) (y n) (h n) in
    elim (cases_lt k n) [
      | inl below ↦ count_same n x y h (omega arith) k below e
      | inr above ↦
          let same : k ≡ n = omega arith in
          subst (λ (z : ℕ). x z ≡ true) (sym same) (weight_same (x n) (y n) (omega arith) (subst (λ (z : ℕ). y z ≡ true) same e))
    ]

-- a full set
pub count_full : (n : ℕ) (x : Set) → n ≤ count n x → (k : ℕ) → k < n → x k ≡ true
count_full zero x le k lt = absurd (omega arith)
count_full (suc n) x le k lt =
    let a : count n x ≤ n = count_le n x in
    elim (cases_lt k n) [
      | inl below ↦ count_full n x (let q : cond (x n) 1 0 ≤ 1 = count_at (x n) in omega arith) k below
      | inr above ↦
          let same : k ≡ n = omega arith in
          subst (λ (z : ℕ). x z ≡ true) (sym same) (weight_same (x n) true (omega arith) refl)
    ]

-- a turn adds nothing to the set
abbrev pub Closed : (Set → Set) → Set → Type 0
Closed f marked = (b : ℕ) → f marked b ≡ true → marked b ≡ true

-- a union with what is there already
absorbed : (x y : Bool) → (y ≡ true → x ≡ true) → (x || y) ≡ x
absorbed true y h = refl
absorbed false true h = sym (h refl)
absorbed false false h = refl

-- so the union with a turn is the set itself
closed_same : (f : Set → Set) (marked : Set) → Closed f marked → union marked (f marked) ≡ marked
closed_same f marked closed = fun_ext (λ b. absorbed (marked b) (f marked b) (closed b))

-- so any number of turns leaves it as it is
pub closed_stays : (f : Set → Set) (m : ℕ) (marked : Set) → Closed f marked → spread f m marked ≡ marked
closed_stays f zero marked closed = refl
closed_stays f (suc m) marked closed = ap (spread f m) (closed_same f marked closed) ∙ closed_stays f m marked closed

module _ (n : ℕ) (f : Set → Set) (A : Link) (sound : Sound f A) (keeps : Keeps n A) where
  -- as many turns as there are tokens leave nothing to add
  pub spread_closed : (m : ℕ) (marked : Set) → Under n marked → n ≤ count n marked + m → Closed f (spread f m marked)
  spread_closed zero marked under le b e =
      count_full n marked (omega arith) b (under_after n f A sound keeps marked under b e)
  spread_closed (suc m) marked under le b e =
      let both : Set = union marked (f marked) in
      elim (cases_lt (count n marked) (count n both)) [
        | inl more ↦ spread_closed m both (under_union n marked (f marked) under (under_after n f A sound keeps marked under)) (omega arith) b e
        | inr same ↦
            let closed : Closed f marked = λ c h.
            count_same n marked both (λ k q. or_left (marked k) (f marked k) q) same c (under_after n f A sound keeps marked under c h) (or_right (marked c) (f marked c) h) in
            let whole : Closed f (spread f (suc m) marked) = subst (Closed f) (sym (closed_stays f (suc m) marked closed)) closed in
            whole b e
      ]

  pub closed_turns : Complete n f A → (marked : Set) → Under n marked → Closed f marked → (k a b : ℕ) → marked a ≡ true → Turned A k a b → marked b ≡ true
  closed_turns complete marked under closed zero a b e t = let same : b ≡ a = t in subst (λ (z : ℕ). marked z ≡ true) (sym same) e
  closed_turns complete marked under closed (suc k) a b e t =
      closed_turns complete marked under closed k t.0 b (closed t.0 (complete marked a t.0 under e t.1)) t.2

  pub under_spreads : (m : ℕ) (marked : Set) → Under n marked → Under n (spread f m marked)
  under_spreads zero marked under = under
  under_spreads (suc m) marked under = under_spreads m (union marked (f marked)) (under_union n marked (f marked) under (under_after n f A sound keeps marked under))
