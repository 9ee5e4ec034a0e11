-- A number that is written is read again, and one that is read is written so.
use Rattle.std.proofs.Common.{get_or, ◌≡◌, ℕ, zero, suc, ◌+◌, ◌-◌, ◌*◌, ◌/◌, ◌%◌, ◌<◌, ◌≤◌, Bool, true, false, cond, eqb, ltb, List, [], ◌∷◌, ◌++◌, Result, Ok, Err, refl, ap, subst, ◌∙◌, arith, inl, inr, ◌⊎◌, append_assoc, sym, ◌^◌, length, take, drop}
use Rattle.std.proofs.lemmas.Bool.{cases_lt, ltb-true, ltb-false, lt-ltb, le-ltb, eqb-false, ne_eqb}
use Rattle.std.proofs.lemmas.List.{take_rest}
use Rattle.od_stored.specs.declared.fault.NumberFault.{NumberFault}
use Rattle.od_stored.specs.declared.fault.NumberFault.TheVariants.{Ends, Wrong}
use Rattle.od_stored.specs.declared.limits.TheConstants.{NUMBER_END}
use Rattle.od_stored.specs.Laws.{AreBytes}
use Rattle.od_stored.specs.Numbers.{septets, septets_read, limit, number_bytes, number_read}
use Rattle.od_stored.specs.Steps.{◌>>=◌}

-- the value of a step that did not fail
pub bind_ok : {A B E : Type 0} (r : Result A E) (f : A → Result B E) (y : B) → (r >>= f) ≡ Ok y → (x : A) × (r ≡ Ok x) × (f x ≡ Ok y)
bind_ok (Ok x) f y e = (x, refl, e)
bind_ok (Err d) f y e = absurd (cc)

-- a test that did not fail
pub guard_ok : {A E : Type 0} (b : Bool) (d : E) (x y : A) → cond b (Err d) (Ok x) ≡ Ok y → (b ≡ false) × (x ≡ y)
guard_ok true d x y e = absurd (cc)
guard_ok false d x y e = (refl, cc)

pub passed_ok : {A E : Type 0} (b : Bool) (d : E) (x y : A) → cond b (Ok x) (Err d) ≡ Ok y → (b ≡ true) × (x ≡ y)
passed_ok true d x y e = (refl, cc)
passed_ok false d x y e = absurd (cc)

-- which way a test went
pub chosen : {X : Type 0} (b : Bool) (x y z : X) → cond b x y ≡ z → ((b ≡ true) × (x ≡ z)) ⊎ ((b ≡ false) × (y ≡ z))
chosen true x y z e = inl (refl, e)
chosen false x y z e = inr (refl, e)

pub ok_is : {A E : Type 0} (x y : A) → ◌≡◌ {A = Result A E} (Ok x) (Ok y) → x ≡ y
ok_is x y e = cc

pub AreBytes-rest : (b : ℕ) (bytes : List ℕ) → AreBytes (b ∷ bytes) → AreBytes bytes
AreBytes-rest b bytes h i = h (suc i)

-- what was written and what is left, together
pub record Takes (bytes text rest : List ℕ) : Type 0 where
  pub parts : bytes ≡ text ++ rest
  pub rest_fits : AreBytes rest

small_limit : (k n : ℕ) → n < 128 → n < limit (suc k)
small_limit zero n lt = omega arith
small_limit (suc k) n lt = omega (arith, small_limit k n lt)

-- a number below 128 is its byte
pub septets_small : (k n : ℕ) → n < 128 → septets k n ≡ n ∷ []
unfolding septets
septets_small zero n lt = refl
septets_small (suc k) n lt = rw (lt-ltb n 128 lt) refl

-- a greater one begins with its last seven bits
pub septets_great : (k n : ℕ) → 128 ≤ n → n < limit k → (further : ℕ) × (septets k n ≡ (n % 128 + 128) ∷ septets further (n / 128)) × (n / 128 < limit further)
unfolding septets
septets_great zero n le lt = absurd (omega arith)
septets_great (suc k) n le lt = (k, rw (le-ltb n 128 le) refl, omega arith)

small_again : (k n : ℕ) (rest : List ℕ) → n < 128 → septets_read k (septets k n ++ rest) ≡ Ok (n, rest)
unfolding septets septets_read
small_again zero n rest lt = rw (lt-ltb n 128 lt) refl
small_again (suc k) n rest lt = let t = lt-ltb n 128 lt in rw t (rw t refl)

septets_again : (k n : ℕ) (rest : List ℕ) → n < limit k → septets_read k (septets k n ++ rest) ≡ Ok (n, rest)
unfolding septets septets_read
septets_again zero n rest lt = rw (lt-ltb n 128 lt) refl
septets_again (suc k) n rest lt =
    elim (cases_lt n 128) [
      | inl small ↦ small_again (suc k) n rest small
      | inr great ↦
          let above : n / 128 < limit k = omega arith in
          let t : ltb n 128 ≡ false = le-ltb n 128 great in
          let u : ltb (n % 128 + 128) 128 ≡ false = le-ltb _ _ (omega arith) in
          let z : eqb (n / 128) 0 ≡ false = ne_eqb _ _ (λ e. omega arith) in
          let v : n % 128 + 128 - 128 + 128 * (n / 128) ≡ n = omega arith in
          rw t (rw (u, septets_again k (n / 128) rest above, z, v) refl)
    ]

-- what behind the first byte was read
above_takes : (k b : ℕ) (h n : ℕ) → 128 ≤ b → b < 256 → eqb h 0 ≡ false → b - 128 + 128 * h ≡ n → h < limit k
    → (septets (suc k) n ≡ b ∷ septets k h) × (n < limit (suc k))
unfolding septets
above_takes k b h n great byte some is lt =
    let pos : 0 < h = elim (cases_lt 0 h) [ inl p ↦ p | inr p ↦ absurd (eqb-false h 0 some (omega arith)) ] in
    let t : ltb n 128 ≡ false = le-ltb n 128 (omega arith) in
    let low : n % 128 + 128 ≡ b = omega arith in
    let high : n / 128 ≡ h = omega arith in
    (rw (t, low, high) refl, omega arith)

pub septets_takes : (k : ℕ) (bytes : List ℕ) (n : ℕ) (rest : List ℕ) → AreBytes bytes → septets_read k bytes ≡ Ok (n, rest) → Takes bytes (septets k n) rest × (n < limit k)
unfolding septets septets_read
septets_takes zero [] n rest fits e = absurd (cc)
septets_takes (suc k) [] n rest fits e = absurd (cc)
septets_takes zero (b ∷ bytes) n rest fits e =
    let p = passed_ok (ltb b 128) Wrong (b, bytes) (n, rest) e in
    let n-is : b ≡ n = ap (λ (x : ℕ × List ℕ). x.0) p.1 in
    let rest-is : bytes ≡ rest = ap (λ (x : ℕ × List ℕ). x.1) p.1 in
    let lt : b < 128 = ltb-true b 128 p.0 in
    (record { parts = rw (← n-is, ← rest-is) refl; rest_fits = rw (← rest-is) (AreBytes-rest b bytes fits) }, rw (← n-is) lt)
septets_takes (suc k) (b ∷ bytes) n rest fits e =
    elim (chosen (ltb b 128) (Ok (b, bytes)) (septets_read k bytes >>= λ above. cond (eqb above.0 0) (Err Wrong) (Ok (b - 128 + 128 * above.0, above.1))) (Ok (n, rest)) e) [
      | inl p ↦
          let n-is : b ≡ n = ap (λ (x : ℕ × List ℕ). x.0) (ok_is {E = NumberFault} (b, bytes) (n, rest) p.1) in
          let rest-is : bytes ≡ rest = ap (λ (x : ℕ × List ℕ). x.1) (ok_is {E = NumberFault} (b, bytes) (n, rest) p.1) in
          let t : ltb n 128 ≡ true = rw (← n-is) p.0 in
          let lt : n < 128 = ltb-true n 128 t in
          (record { parts = rw (t, n-is, rest-is) refl; rest_fits = rw (← rest-is) (AreBytes-rest b bytes fits) }, small_limit k n lt)
      | inr q ↦
          let great : 128 ≤ b = ltb-false b 128 q.0 in
          let r = bind_ok (septets_read k bytes) (λ above. cond (eqb above.0 0) (Err Wrong) (Ok (b - 128 + 128 * above.0, above.1))) (n, rest) q.1 in
          let g = guard_ok (eqb r.0.0 0) Wrong (b - 128 + 128 * r.0.0, r.0.1) (n, rest) r.2 in
          let n-is : b - 128 + 128 * r.0.0 ≡ n = ap (λ (x : ℕ × List ℕ). x.0) g.1 in
          let rest-is : r.0.1 ≡ rest = ap (λ (x : ℕ × List ℕ). x.1) g.1 in
          let t = septets_takes k bytes r.0.0 r.0.1 (AreBytes-rest b bytes fits) r.1 in
          let a = above_takes k b r.0.0 n great (fits 0) g.0 n-is t.1 in
          (record { parts = rw a.0 (ap (λ (x : List ℕ). b ∷ x) (t.0.parts ∙ ap (λ (x : List ℕ). septets k r.0.0 ++ x) rest-is)); rest_fits = rw (← rest-is) t.0.rest_fits }, a.1)
    ]

pub number_again : (n : ℕ) (rest : List ℕ) → n < NUMBER_END → number_read (number_bytes n ++ rest) ≡ Ok (n, rest)
number_again n rest lt = rw (septets_again 4 n rest (omega arith), lt-ltb n NUMBER_END lt) refl

pub number_takes : (bytes : List ℕ) (n : ℕ) (rest : List ℕ) → AreBytes bytes → number_read bytes ≡ Ok (n, rest) → Takes bytes (number_bytes n) rest × (n < NUMBER_END)
number_takes bytes n rest fits e =
    let r = bind_ok (septets_read 4 bytes) (λ m. cond (ltb m.0 NUMBER_END) (Ok m) (Err Wrong)) (n, rest) e in
    let p = passed_ok (ltb r.0.0 NUMBER_END) Wrong r.0 (n, rest) r.2 in
    let t = septets_takes 4 bytes r.0.0 r.0.1 fits r.1 in
    subst (λ (x : ℕ × List ℕ). Takes bytes (number_bytes x.0) x.1 × (x.0 < NUMBER_END)) p.1 (t.0, ltb-true r.0.0 NUMBER_END p.0)

-- ## steps of the code

-- one byte more is written
pub put_goes_on : (k n above : ℕ) (out new old : List ℕ) → 128 ≤ above → above < limit k → new ≡ out ++ (above % 128 + 128) ∷ []
    → out ++ septets k above ≡ old ++ number_bytes n → (x : ℕ) × (above / 128 < limit x) × (new ++ septets x (above / 128) ≡ old ++ number_bytes n)
put_goes_on k n above out new old le lt is so_far =
    let g = septets_great k above le lt in
    (g.0, g.2, ap (λ (x : List ℕ). x ++ septets g.0 (above / 128)) is ∙ append_assoc out ((above % 128 + 128) ∷ []) (septets g.0 (above / 128)) ∙ ap (λ (x : List ℕ). out ++ x) (sym g.1) ∙ so_far)

pub put_ends : (k n above : ℕ) (out new old : List ℕ) → above < 128 → new ≡ out ++ above ∷ [] → out ++ septets k above ≡ old ++ number_bytes n → new ≡ old ++ number_bytes n
put_ends k n above out new old lt is so_far = is ∙ ap (λ (x : List ℕ). out ++ x) (sym (septets_small k above lt)) ∙ so_far

pub read_none : (k : ℕ) → septets_read k [] ≡ Err Ends
unfolding septets_read
read_none zero = refl
read_none (suc k) = refl

pub read_last : (k b : ℕ) (bytes : List ℕ) → b < 128 → septets_read k (b ∷ bytes) ≡ Ok (b, bytes)
unfolding septets_read
read_last zero b bytes lt = rw (lt-ltb b 128 lt) refl
read_last (suc k) b bytes lt = rw (lt-ltb b 128 lt) refl

pub read_past : (k b : ℕ) (bytes : List ℕ) → 128 ≤ b → k ≡ 0 → septets_read k (b ∷ bytes) ≡ Err Wrong
unfolding septets_read
read_past zero b bytes le e = rw (le-ltb b 128 le) refl
read_past (suc k) b bytes le e = absurd (omega arith)

pub read_on : (k b : ℕ) (bytes : List ℕ) → 128 ≤ b → 0 < k → septets_read k (b ∷ bytes) ≡ (septets_read (k - 1) bytes >>= λ above. cond (eqb above.0 0) (Err Wrong) (Ok (b - 128 + 128 * above.0, above.1)))
unfolding septets_read
read_on zero b bytes le lt = absurd (omega arith)
read_on (suc k) b bytes le lt = let e : suc k - 1 ≡ k = omega arith in rw (le-ltb b 128 le, e) refl

pub read_fails : (k b : ℕ) (bytes : List ℕ) (f : NumberFault) → 128 ≤ b → 0 < k → septets_read (k - 1) bytes ≡ Err f → septets_read k (b ∷ bytes) ≡ Err f
read_fails k b bytes f le lt e = read_on k b bytes le lt ∙ rw e refl

pub read_zero : (k b : ℕ) (bytes : List ℕ) (above : ℕ) (left : List ℕ) → 128 ≤ b → 0 < k → above ≡ 0 → septets_read (k - 1) bytes ≡ Ok (above, left) → septets_read k (b ∷ bytes) ≡ Err Wrong
read_zero k b bytes above left le lt none e = read_on k b bytes le lt ∙ rw (e, none) refl

pub read_above : (k b : ℕ) (bytes : List ℕ) (above : ℕ) (left : List ℕ) → 128 ≤ b → 0 < k → (above ≡ 0 → ⊥) → septets_read (k - 1) bytes ≡ Ok (above, left) → septets_read k (b ∷ bytes) ≡ Ok (b - 128 + 128 * above, left)
read_above k b bytes above left le lt some e = read_on k b bytes le lt ∙ rw (e, ne_eqb above 0 some) refl

pub limit_more : (k b above : ℕ) → 0 < k → b < 256 → above < limit (k - 1) → b - 128 + 128 * above < limit k
limit_more zero b above lt byte h = absurd (omega arith)
limit_more (suc k) b above lt byte h = let e : suc k - 1 ≡ k = omega arith in let g : above < limit k = rw e at h in omega arith

pub limit_last : (k b : ℕ) → b < 128 → b < limit k
limit_last zero b lt = lt
limit_last (suc k) b lt = small_limit k b lt

-- numbers of at most five bytes
pub limit_most : (k n : ℕ) → k ≤ 4 → n < limit k → n < 2 ^ 35
limit_most zero n le lt = omega arith
limit_most (suc zero) n le lt = omega arith
limit_most (suc (suc zero)) n le lt = omega arith
limit_most (suc (suc (suc zero))) n le lt = omega arith
limit_most (suc (suc (suc (suc zero)))) n le lt = omega arith
limit_most (suc (suc (suc (suc (suc k))))) n le lt = absurd (omega arith)

pub number_fails : (bytes : List ℕ) (f : NumberFault) → septets_read 4 bytes ≡ Err f → number_read bytes ≡ Err f
number_fails bytes f e = rw e refl

pub number_small : (bytes : List ℕ) (n : ℕ) (rest : List ℕ) → n < NUMBER_END → septets_read 4 bytes ≡ Ok (n, rest) → number_read bytes ≡ Ok (n, rest)
number_small bytes n rest lt e = rw (e, lt-ltb n NUMBER_END lt) refl

pub number_great : (bytes : List ℕ) (n : ℕ) (rest : List ℕ) → NUMBER_END ≤ n → septets_read 4 bytes ≡ Ok (n, rest) → number_read bytes ≡ Err Wrong
number_great bytes n rest le e = rw (e, le-ltb n NUMBER_END le) refl

-- the first byte and the others
pub front : (bytes : List ℕ) → 1 ≤ length bytes → bytes ≡ get_or bytes 0 0 ∷ take (length bytes - 1) (drop 1 bytes)
front [] some = absurd (omega arith)
front (b ∷ bytes) some = ap (λ (x : List ℕ). b ∷ x) (sym (take_rest (b ∷ bytes) 1))
