-- Packed pairs: what is written is read again, and what is read is written so.
use Rattle.std.proofs.Common.{◌≡◌, ℕ, zero, suc, ◌+◌, ◌-◌, ◌*◌, ◌/◌, ◌%◌, ◌<◌, ◌≤◌, Bool, true, false, cond, eqb, ltb, leb, List, [], ◌∷◌, ◌++◌, length, take, drop, Option, Some, None, Result, Ok, Err, refl, sym, ap, ap₂, subst, ◌∙◌, append_assoc, append-nil, arith, inl, inr, ◌⊎◌}
use Rattle.std.specs.Prelude.{flat_map}
use Rattle.std.proofs.lemmas.Bool.{cases_lt, ltb-true, ltb-false, lt-ltb, le-ltb, leb-false, lt-leb, eqb-true, eqb-false, eq-eqb, ne_eqb, and_cases}
use Rattle.std.proofs.lemmas.List.{take_at, drop_at, take-append-drop, length-append, length-take, length-drop}
use Rattle.od_stored.specs.declared.fault.NumberFault.{NumberFault}
use Rattle.od_stored.specs.declared.fault.PackFault.{PackFault}
use Rattle.od_stored.specs.declared.fault.PackFault.TheVariants as fault
use Rattle.od_stored.specs.declared.limits.TheConstants.{NUMBER_END, BLOCK_PAIRS}
use Rattle.od_stored.specs.Laws.{AreBytes, ReadsPairsBack, WritesPairsAsRead}
use Rattle.od_stored.specs.Numbers.{septets, number_bytes, number_read}
use Rattle.od_stored.specs.Pairs.{second_behind, pair_behind, pairs_behind, body_bytes, block_bytes, blocks_of, pair_bytes, IsSmall, IsAbove, IsBehind, AscendsFrom}
use Rattle.od_stored.specs.ReadPairs.{packed, packed_at, is_before, is_not_above, first_second_at, first_at, second_told, second_at, behind_at, behinds_at, body_at, block_at, last_of, rest_at, blocks_at, packed_end, pairs_read}
use Rattle.od_stored.specs.Steps.{◌>>=◌}
use Rattle.od_stored.specs.Texts.{place}
use Rattle.od_stored.proofs.NumberLaws.{bind_ok, guard_ok, passed_ok, ok_is, Takes, number_again, number_takes}
use Rattle.od_stored.proofs.TextLaws.{Takes-then}

-- ## numbers

pub packed_ok : {X : Type 0} (total : ℕ) (bytes : List ℕ) (r : Result X NumberFault) (x : X) → packed total bytes r ≡ Ok x → r ≡ Ok x
packed_ok total bytes (Ok y) x e = ap (λ (z : _). Ok z) (ok_is {E = PackFault} y x e)
packed_ok total bytes (Err d) x e = absurd (cc)

pub packed_again : (total n : ℕ) (rest : List ℕ) → n < NUMBER_END → packed_at total (number_bytes n ++ rest) ≡ Ok (n, rest)
unfolding packed_at
packed_again total n rest lt = ap (packed total (number_bytes n ++ rest)) (number_again n rest lt)

pub packed_takes : (total : ℕ) (bytes : List ℕ) (n : ℕ) (rest : List ℕ) → AreBytes bytes → packed_at total bytes ≡ Ok (n, rest) → Takes bytes (number_bytes n) rest × (n < NUMBER_END)
unfolding packed_at
packed_takes total bytes n rest fits e = number_takes bytes n rest fits (packed_ok total bytes (number_read bytes) (n, rest) e)

-- a test that lets go on
pub chosen_ok : {A E : Type 0} (b : Bool) (x : Result A E) (d : E) (y : A) → cond b x (Err d) ≡ Ok y → (b ≡ true) × (x ≡ Ok y)
chosen_ok true x d y e = (refl, e)
chosen_ok false x d y e = absurd (cc)

pub passed_on : {A E : Type 0} (b : Bool) (d : E) (x : Result A E) (y : A) → cond b (Err d) x ≡ Ok y → (b ≡ false) × (x ≡ Ok y)
passed_on true d x y e = absurd (cc)
passed_on false d x y e = (refl, e)

-- a number has at most so many bytes
pub length-septets : (k n : ℕ) → length (septets k n) ≤ k + 1
unfolding septets
length-septets zero n = omega arith
length-septets (suc k) n = elim (cases_lt n 128) [ inl lt ↦ rw (lt-ltb n 128 lt) (omega arith) | inr ge ↦ rw (le-ltb n 128 ge) (omega (arith, length-septets k (n / 128))) ]

-- ## a pair behind another one

-- what is told of the second number, and that it is told back
pub told_back : (a b : ℕ × ℕ) → IsAbove a b → (second_told a (b.0 - a.0) (second_behind a b) ≡ b.1) × (a.0 + (b.0 - a.0) ≡ b.0) × (second_behind a b ≤ b.1)
told_back a b (inl lt) =
    let t : ltb a.0 b.0 ≡ true = lt-ltb a.0 b.0 lt in
    let u : eqb (b.0 - a.0) 0 ≡ false = ne_eqb _ _ (λ e. omega arith) in
    (rw (t, u) refl, omega arith, rw t (omega arith))
told_back a b (inr same) =
    let t : ltb a.0 b.0 ≡ false = le-ltb a.0 b.0 (omega arith) in
    let u : eqb (b.0 - a.0) 0 ≡ true = eq-eqb _ _ (omega arith) in
    (rw (t, u) (omega arith), omega arith, rw t (omega arith))

pub behind_again : (total : ℕ) (a b : ℕ × ℕ) (rest : List ℕ) → IsAbove a b → IsSmall b → behind_at total a (pair_behind a b ++ rest) ≡ Ok (b, rest)
unfolding behind_at second_at
behind_again total a b rest above small =
    let t = told_back a b above in
    let later : ℕ = b.0 - a.0 in
    let told : ℕ = second_behind a b in
    let regrouped : pair_behind a b ++ rest ≡ number_bytes later ++ (number_bytes told ++ rest) = append_assoc (number_bytes later) (number_bytes told) rest in
    let first : ltb (a.0 + later) NUMBER_END ≡ true = lt-ltb _ _ (omega (arith, t.1, small.0)) in
    let second : ltb (second_told a later told) NUMBER_END ≡ true = rw (t.0) (lt-ltb _ _ small.1) in
    let is : ◌≡◌ {A = ℕ × ℕ} (a.0 + later, second_told a later told) b = ap₂ (λ (x y : ℕ). (x, y)) t.1 t.0 in
    ap (behind_at total a) regrouped ∙ rw (packed_again total later (number_bytes told ++ rest) (omega (arith, small.0)), first, packed_again total told rest (omega (arith, t.2, small.1)), second) (ap (λ (p : ℕ × ℕ). Ok (p, rest)) is)

-- the second number that is told makes the pair that is above
told_above : (a : ℕ × ℕ) (later told : ℕ) (b : Bool) → eqb later 0 ≡ b → (second_behind a (a.0 + later, cond b (a.1 + 1 + told) told) ≡ told) × IsAbove a (a.0 + later, cond b (a.1 + 1 + told) told)
told_above a later told true e =
    let z : later ≡ 0 = eqb-true later 0 e in
    let t : ltb a.0 (a.0 + later) ≡ false = le-ltb _ _ (omega arith) in
    (rw t (omega arith), inr (omega arith, omega arith))
told_above a later told false e =
    let p : a.0 < a.0 + later = elim (cases_lt 0 later) [ inl q ↦ omega arith | inr q ↦ absurd (eqb-false later 0 e (omega arith)) ] in
    (rw (lt-ltb a.0 (a.0 + later) p) refl, inl p)

pub record TakesBehind (a b : ℕ × ℕ) (bytes rest : List ℕ) : Type 0 where
  pub takes : Takes bytes (pair_behind a b) rest
  pub above : IsAbove a b
  pub small : IsSmall b

pub behind_takes : (total : ℕ) (a : ℕ × ℕ) (bytes : List ℕ) (b : ℕ × ℕ) (rest : List ℕ) → AreBytes bytes → behind_at total a bytes ≡ Ok (b, rest) → TakesBehind a b bytes rest
unfolding behind_at second_at
behind_takes total a bytes b rest fits e =
    let x = bind_ok (packed_at total bytes) (λ later. cond (ltb (a.0 + later.0) NUMBER_END) (second_at total a later.0 later.1) (Err (fault.NotCanonical (place total bytes)))) (b, rest) e in
    let later : ℕ = x.0.0 in
    let g = chosen_ok (ltb (a.0 + later) NUMBER_END) (second_at total a later x.0.1) (fault.NotCanonical (place total bytes)) (b, rest) x.2 in
    let y = bind_ok (packed_at total x.0.1) (λ told. cond (ltb (second_told a later told.0) NUMBER_END) (Ok ((a.0 + later, second_told a later told.0), told.1)) (Err (fault.NotCanonical (place total x.0.1)))) (b, rest) g.1 in
    let told : ℕ = y.0.0 in
    let made : (ℕ × ℕ) × List ℕ = ((a.0 + later, second_told a later told), y.0.1) in
    let h = passed_ok (ltb (second_told a later told) NUMBER_END) (fault.NotCanonical (place total x.0.1)) made (b, rest) y.2 in
    let tx = packed_takes total bytes later x.0.1 fits x.1 in
    let ty = packed_takes total x.0.1 told y.0.1 tx.0.rest_fits y.1 in
    let t = told_above a later told (eqb later 0) refl in
    let both : Takes bytes (number_bytes later ++ number_bytes told) y.0.1 = Takes-then bytes (number_bytes later) x.0.1 (number_bytes told) y.0.1 tx.0 ty.0 in
    let diff : a.0 + later - a.0 ≡ later = omega arith in
    subst (λ (p : (ℕ × ℕ) × List ℕ). TakesBehind a p.0 bytes p.1) h.1
    (record { takes = rw (t.0, diff) both; above = t.1; small = (ltb-true _ _ g.0, ltb-true _ _ h.0) })

-- ## pairs behind a pair

pub behinds_again : (total : ℕ) (a : ℕ × ℕ) (more : List (ℕ × ℕ)) (rest : List ℕ) → AscendsFrom (Some a) more → behinds_at total (length more) a (pairs_behind a more ++ rest) ≡ Ok (more, rest)
unfolding behinds_at pairs_behind
behinds_again total a [] rest is = refl
behinds_again total a (b ∷ more) rest is =
    rw (append_assoc (pair_behind a b) (pairs_behind b more) rest, behind_again total a b (pairs_behind b more ++ rest) is.0 is.1, behinds_again total b more rest is.2) refl

pub record TakesBehinds (a : ℕ × ℕ) (n : ℕ) (more : List (ℕ × ℕ)) (bytes rest : List ℕ) : Type 0 where
  pub takes : Takes bytes (pairs_behind a more) rest
  pub ascends : AscendsFrom (Some a) more
  pub count : length more ≡ n

pub behinds_takes : (total n : ℕ) (a : ℕ × ℕ) (bytes : List ℕ) (more : List (ℕ × ℕ)) (rest : List ℕ) → AreBytes bytes → behinds_at total n a bytes ≡ Ok (more, rest) → TakesBehinds a n more bytes rest
unfolding behinds_at pairs_behind
behinds_takes total zero a bytes more rest fits e =
    subst (λ (x : List (ℕ × ℕ) × List ℕ). TakesBehinds a 0 x.0 bytes x.1) (ok_is {E = PackFault} ([], bytes) (more, rest) e) (record { takes = record { parts = refl; rest_fits = fits }; ascends = tt; count = refl })
behinds_takes total (suc n) a bytes more rest fits e =
    let x = bind_ok (behind_at total a bytes) (λ b. behinds_at total n b.0 b.1 >>= λ others. Ok (b.0 ∷ others.0, others.1)) (more, rest) e in
    let y = bind_ok (behinds_at total n x.0.0 x.0.1) (λ others. Ok (x.0.0 ∷ others.0, others.1)) (more, rest) x.2 in
    let t = behind_takes total a bytes x.0.0 x.0.1 fits x.1 in
    let u = behinds_takes total n x.0.0 x.0.1 y.0.0 y.0.1 t.takes.rest_fits y.1 in
    let whole = Takes-then bytes (pair_behind a x.0.0) x.0.1 (pairs_behind x.0.0 y.0.0) y.0.1 t.takes u.takes in
    subst (λ (z : List (ℕ × ℕ) × List ℕ). TakesBehinds a (suc n) z.0 bytes z.1) (ok_is {E = PackFault} (x.0.0 ∷ y.0.0, y.0.1) (more, rest) y.2)
    (record { takes = whole; ascends = (t.above, t.small, u.ascends); count = omega (arith, u.count) })

-- ## the first pair of a block

pub not_before : (last : Option (ℕ × ℕ)) (b : ℕ × ℕ) → IsBehind last b → (is_before last b.0 ≡ false) × (is_not_above last b.0 b.1 ≡ false)
not_before None b is = (refl, refl)
not_before (Some a) b (inl lt) = (le-ltb _ _ (omega arith), rw (ne_eqb b.0 a.0 (λ e. omega arith)) refl)
not_before (Some a) b (inr same) = (le-ltb _ _ (omega arith), rw (eq-eqb b.0 a.0 (omega arith), lt-leb b.1 a.1 same.1) refl)

above_of : (a s : ℕ) → a ≤ s → eqb s a ≡ false → a < s
above_of a s le p = elim (cases_lt a s) [ inl lt ↦ lt | inr ge ↦ absurd (eqb-false s a p (omega arith)) ]

above_by : (a s b t : ℕ) → a ≤ s → ((eqb s a ≡ false) ⊎ (leb t b ≡ false)) → IsAbove (a, b) (s, t)
above_by a s b t le (inl p) = inl (above_of a s le p)
above_by a s b t le (inr q) = elim (cases_lt a s) [ inl lt ↦ inl lt | inr ge ↦ inr (omega arith, leb-false t b q) ]

is_behind : (last : Option (ℕ × ℕ)) (sentence second : ℕ) → is_before last sentence ≡ false → is_not_above last sentence second ≡ false → IsBehind last (sentence, second)
is_behind None sentence second e f = tt
is_behind (Some a) sentence second e f = above_by a.0 sentence a.1 second (ltb-false _ _ e) (and_cases (eqb sentence a.0) (leb second a.1) f)

pub first_again : (total : ℕ) (last : Option (ℕ × ℕ)) (b : ℕ × ℕ) (rest : List ℕ) → IsBehind last b → IsSmall b → first_at total last (number_bytes b.0 ++ (number_bytes b.1 ++ rest)) ≡ Ok (b, rest)
unfolding first_at first_second_at
first_again total last b rest is small =
    let t = not_before last b is in
    rw (packed_again total b.0 (number_bytes b.1 ++ rest) small.0, t.0, packed_again total b.1 rest small.1, t.1) refl

pub record TakesFirst (last : Option (ℕ × ℕ)) (b : ℕ × ℕ) (bytes rest : List ℕ) : Type 0 where
  pub takes : Takes bytes (number_bytes b.0 ++ number_bytes b.1) rest
  pub behind : IsBehind last b
  pub small : IsSmall b

pub first_takes : (total : ℕ) (last : Option (ℕ × ℕ)) (bytes : List ℕ) (b : ℕ × ℕ) (rest : List ℕ) → AreBytes bytes → first_at total last bytes ≡ Ok (b, rest) → TakesFirst last b bytes rest
unfolding first_at first_second_at
first_takes total last bytes b rest fits e =
    let x = bind_ok (packed_at total bytes) (λ sentence. cond (is_before last sentence.0) (Err (fault.NotCanonical (place total bytes))) (first_second_at total last sentence.0 sentence.1)) (b, rest) e in
    let sentence : ℕ = x.0.0 in
    let g = passed_on (is_before last sentence) (fault.NotCanonical (place total bytes)) (first_second_at total last sentence x.0.1) (b, rest) x.2 in
    let y = bind_ok (packed_at total x.0.1) (λ second. cond (is_not_above last sentence second.0) (Err (fault.NotCanonical (place total x.0.1))) (Ok ((sentence, second.0), second.1))) (b, rest) g.1 in
    let second : ℕ = y.0.0 in
    let made : (ℕ × ℕ) × List ℕ = ((sentence, second), y.0.1) in
    let h = guard_ok (is_not_above last sentence second) (fault.NotCanonical (place total x.0.1)) made (b, rest) y.2 in
    let tx = packed_takes total bytes sentence x.0.1 fits x.1 in
    let ty = packed_takes total x.0.1 second y.0.1 tx.0.rest_fits y.1 in
    subst (λ (p : (ℕ × ℕ) × List ℕ). TakesFirst last p.0 bytes p.1) h.1
    (record { takes = Takes-then bytes (number_bytes sentence) x.0.1 (number_bytes second) y.0.1 tx.0 ty.0; behind = is_behind last sentence second g.0 h.0; small = (tx.1, ty.1) })

-- ## bodies

pub body_again : (total : ℕ) (last : Option (ℕ × ℕ)) (ps : List (ℕ × ℕ)) (rest : List ℕ) → AscendsFrom last ps → body_at total last (length ps) (body_bytes ps ++ rest) ≡ Ok (ps, rest)
unfolding body_at body_bytes
body_again total last [] rest is = refl
body_again total last (a ∷ more) rest is =
    let regrouped : body_bytes (a ∷ more) ++ rest ≡ number_bytes a.0 ++ (number_bytes a.1 ++ (pairs_behind a more ++ rest)) =
    append_assoc (number_bytes a.0) (number_bytes a.1 ++ pairs_behind a more) rest ∙ ap (λ (x : List ℕ). number_bytes a.0 ++ x) (append_assoc (number_bytes a.1) (pairs_behind a more) rest) in
    ap (body_at total last (suc (length more))) regrouped ∙
    rw (first_again total last a (pairs_behind a more ++ rest) is.0 is.1, behinds_again total a more rest is.2) refl

pub record TakesBody (last : Option (ℕ × ℕ)) (n : ℕ) (ps : List (ℕ × ℕ)) (text bytes rest : List ℕ) : Type 0 where
  pub takes : Takes bytes text rest
  pub ascends : AscendsFrom last ps
  pub count : length ps ≡ n

pub body_takes : (total : ℕ) (last : Option (ℕ × ℕ)) (n : ℕ) (bytes : List ℕ) (ps : List (ℕ × ℕ)) (rest : List ℕ) → AreBytes bytes → body_at total last n bytes ≡ Ok (ps, rest) → TakesBody last n ps (body_bytes ps) bytes rest
unfolding body_at body_bytes
body_takes total last zero bytes ps rest fits e =
    subst (λ (x : List (ℕ × ℕ) × List ℕ). TakesBody last 0 x.0 (body_bytes x.0) bytes x.1) (ok_is {E = PackFault} ([], bytes) (ps, rest) e) (record { takes = record { parts = refl; rest_fits = fits }; ascends = tt; count = refl })
body_takes total last (suc n) bytes ps rest fits e =
    let x = bind_ok (first_at total last bytes) (λ a. behinds_at total n a.0 a.1 >>= λ more. Ok (a.0 ∷ more.0, more.1)) (ps, rest) e in
    let a : ℕ × ℕ = x.0.0 in
    let y = bind_ok (behinds_at total n a x.0.1) (λ more. Ok (a ∷ more.0, more.1)) (ps, rest) x.2 in
    let t = first_takes total last bytes a x.0.1 fits x.1 in
    let u = behinds_takes total n a x.0.1 y.0.0 y.0.1 t.takes.rest_fits y.1 in
    let whole = Takes-then bytes (number_bytes a.0 ++ number_bytes a.1) x.0.1 (pairs_behind a y.0.0) y.0.1 t.takes u.takes in
    let grouped : Takes bytes (body_bytes (a ∷ y.0.0)) y.0.1 = subst (λ (w : List ℕ). Takes bytes w y.0.1) (append_assoc (number_bytes a.0) (number_bytes a.1) (pairs_behind a y.0.0)) whole in
    subst (λ (z : List (ℕ × ℕ) × List ℕ). TakesBody last (suc n) z.0 (body_bytes z.0) bytes z.1) (ok_is {E = PackFault} (a ∷ y.0.0, y.0.1) (ps, rest) y.2)
    (record { takes = grouped; ascends = (t.behind, t.small, u.ascends); count = omega (arith, u.count) })

-- ## blocks

pub behinds_short : (a : ℕ × ℕ) (more : List (ℕ × ℕ)) → length (pairs_behind a more) ≤ 10 * length more
unfolding pairs_behind
behinds_short a [] = omega arith
behinds_short a (b ∷ more) =
    omega (arith, length-append (pair_behind a b) (pairs_behind b more), length-append (number_bytes (b.0 - a.0)) (number_bytes (second_behind a b)), length-septets 4 (b.0 - a.0), length-septets 4 (second_behind a b), behinds_short b more)

pub body_short : (ps : List (ℕ × ℕ)) → length (body_bytes ps) ≤ 10 * length ps
unfolding body_bytes
body_short [] = omega arith
body_short (a ∷ more) =
    omega (arith, length-append (number_bytes a.0) (number_bytes a.1 ++ pairs_behind a more), length-append (number_bytes a.1) (pairs_behind a more), length-septets 4 a.0, length-septets 4 a.1, behinds_short a more)

pub block_again : (total : ℕ) (last : Option (ℕ × ℕ)) (n : ℕ) (ps : List (ℕ × ℕ)) (rest : List ℕ) → AscendsFrom last ps → length ps ≡ n → n ≤ BLOCK_PAIRS → block_at total last n (block_bytes ps ++ rest) ≡ Ok (ps, rest)
unfolding block_at
block_again total last n ps rest is count few =
    let body : List ℕ = body_bytes ps in
    let short : length body < NUMBER_END = omega (arith, body_short ps) in
    let size : eqb (length body) (length (body ++ rest) - length rest) ≡ true = eq-eqb _ _ (omega (arith, length-append body rest)) in
    let read : body_at total last n (body ++ rest) ≡ Ok (ps, rest) = rw (← count) (body_again total last ps rest is) in
    ap (block_at total last n) (append_assoc (number_bytes (length body)) body rest) ∙ rw (packed_again total (length body) (body ++ rest) short, read, size) refl

pub block_takes : (total : ℕ) (last : Option (ℕ × ℕ)) (n : ℕ) (bytes : List ℕ) (ps : List (ℕ × ℕ)) (rest : List ℕ) → AreBytes bytes → block_at total last n bytes ≡ Ok (ps, rest) → TakesBody last n ps (block_bytes ps) bytes rest
unfolding block_at
block_takes total last n bytes ps rest fits e =
    let x = bind_ok (packed_at total bytes) (λ size. body_at total last n size.1 >>= λ body. cond (eqb size.0 (length size.1 - length body.1)) (Ok body) (Err (fault.NotCanonical (place total bytes)))) (ps, rest) e in
    let size : ℕ = x.0.0 in
    let y = bind_ok (body_at total last n x.0.1) (λ body. cond (eqb size (length x.0.1 - length body.1)) (Ok body) (Err (fault.NotCanonical (place total bytes)))) (ps, rest) x.2 in
    let g = passed_ok (eqb size (length x.0.1 - length y.0.1)) (fault.NotCanonical (place total bytes)) y.0 (ps, rest) y.2 in
    let tx = packed_takes total bytes size x.0.1 fits x.1 in
    let ty = body_takes total last n x.0.1 y.0.0 y.0.1 tx.0.rest_fits y.1 in
    let len : length x.0.1 ≡ length (body_bytes y.0.0) + length y.0.1 = ap length ty.takes.parts ∙ length-append (body_bytes y.0.0) y.0.1 in
    let same : size ≡ length (body_bytes y.0.0) = omega (arith, eqb-true size (length x.0.1 - length y.0.1) g.0) in
    let whole = Takes-then bytes (number_bytes size) x.0.1 (body_bytes y.0.0) y.0.1 tx.0 ty.takes in
    let written : Takes bytes (block_bytes y.0.0) y.0.1 = subst (λ (k : ℕ). Takes bytes (number_bytes k ++ body_bytes y.0.0) y.0.1) same whole in
    subst (λ (z : List (ℕ × ℕ) × List ℕ). TakesBody last n z.0 (block_bytes z.0) bytes z.1) g.1 (record { takes = written; ascends = ty.ascends; count = ty.count })

pub ascends_left : (last : Option (ℕ × ℕ)) (xs ys : List (ℕ × ℕ)) → AscendsFrom last (xs ++ ys) → AscendsFrom last xs × AscendsFrom (last_of last xs) ys
ascends_left last [] ys is = (tt, is)
ascends_left last (x ∷ xs) ys is = let t = ascends_left (Some x) xs ys is.2 in ((is.0, is.1, t.0), t.1)

pub ascends_join : (last : Option (ℕ × ℕ)) (xs ys : List (ℕ × ℕ)) → AscendsFrom last xs → AscendsFrom (last_of last xs) ys → AscendsFrom last (xs ++ ys)
ascends_join last [] ys is are = are
ascends_join last (x ∷ xs) ys is are = (is.0, is.1, ascends_join (Some x) xs ys is.2 are)

pub rest_again : (total : ℕ) (last : Option (ℕ × ℕ)) (r : ℕ) (ps : List (ℕ × ℕ)) (rest : List ℕ) → AscendsFrom last ps → length ps ≡ r → r ≤ BLOCK_PAIRS → rest_at total last r (flat_map block_bytes (blocks_of 0 ps) ++ rest) ≡ Ok (ps, rest)
unfolding blocks_of
rest_again total last zero [] rest is count few = refl
rest_again total last (suc r) [] rest is count few = absurd (omega arith)
rest_again total last zero (a ∷ more) rest is count few = absurd (omega arith)
rest_again total last (suc r) (a ∷ more) rest is count few =
    ap (λ (x : List ℕ). block_at total last (suc r) (x ++ rest)) (append-nil (block_bytes (a ∷ more))) ∙ block_again total last (suc r) (a ∷ more) rest is count few

pub blocks_again : (total n : ℕ) (last : Option (ℕ × ℕ)) (r : ℕ) (ps : List (ℕ × ℕ)) (rest : List ℕ) → AscendsFrom last ps → length ps ≡ BLOCK_PAIRS * n + r → r < BLOCK_PAIRS
    → blocks_at total n last r (flat_map block_bytes (blocks_of n ps) ++ rest) ≡ Ok (ps, rest)
unfolding blocks_at blocks_of
blocks_again total zero last r ps rest is count few = rest_again total last r ps rest is (omega arith) (omega arith)
blocks_again total (suc n) last r ps rest is count few =
    let block : List (ℕ × ℕ) = take BLOCK_PAIRS ps in
    let more : List (ℕ × ℕ) = drop BLOCK_PAIRS ps in
    let seam : block ++ more ≡ ps = take-append-drop BLOCK_PAIRS ps in
    let t = ascends_left last block more (rw seam is) in
    let full : length block ≡ BLOCK_PAIRS = omega (arith, length-take BLOCK_PAIRS ps) in
    let left : length more ≡ BLOCK_PAIRS * n + r = omega (arith, length-drop BLOCK_PAIRS ps) in
    let written : List ℕ = flat_map block_bytes (blocks_of n more) in
    ap (blocks_at total (suc n) last r) (append_assoc (block_bytes block) written rest) ∙
    rw (block_again total last BLOCK_PAIRS block (written ++ rest) t.0 full (omega arith), blocks_again total n (last_of last block) r more rest t.1 left few) (ap (λ (x : List (ℕ × ℕ)). Ok (x, rest)) seam)

pub rest_takes : (total : ℕ) (last : Option (ℕ × ℕ)) (r : ℕ) (bytes : List ℕ) (ps : List (ℕ × ℕ)) (rest : List ℕ) → AreBytes bytes → rest_at total last r bytes ≡ Ok (ps, rest) → TakesBody last r ps (flat_map block_bytes (blocks_of 0 ps)) bytes rest
unfolding blocks_of
rest_takes total last zero bytes ps rest fits e =
    subst (λ (x : List (ℕ × ℕ) × List ℕ). TakesBody last 0 x.0 (flat_map block_bytes (blocks_of 0 x.0)) bytes x.1) (ok_is {E = PackFault} ([], bytes) (ps, rest) e) (record { takes = record { parts = refl; rest_fits = fits }; ascends = tt; count = refl })
rest_takes total last (suc r) bytes [] rest fits e = absurd (omega (arith, (block_takes total last (suc r) bytes [] rest fits e).count))
rest_takes total last (suc r) bytes (a ∷ more) rest fits e =
    let t = block_takes total last (suc r) bytes (a ∷ more) rest fits e in
    record { takes = subst (λ (x : List ℕ). Takes bytes x rest) (sym (append-nil (block_bytes (a ∷ more)))) t.takes; ascends = t.ascends; count = t.count }

pub blocks_takes : (total n : ℕ) (last : Option (ℕ × ℕ)) (r : ℕ) (bytes : List ℕ) (ps : List (ℕ × ℕ)) (rest : List ℕ) → AreBytes bytes → blocks_at total n last r bytes ≡ Ok (ps, rest)
    → TakesBody last (BLOCK_PAIRS * n + r) ps (flat_map block_bytes (blocks_of n ps)) bytes rest
unfolding blocks_at blocks_of
blocks_takes total zero last r bytes ps rest fits e =
    let t = rest_takes total last r bytes ps rest fits e in
    record { takes = t.takes; ascends = t.ascends; count = omega (arith, t.count) }
blocks_takes total (suc n) last r bytes ps rest fits e =
    let x = bind_ok (block_at total last BLOCK_PAIRS bytes) (λ block. blocks_at total n (last_of last block.0) r block.1 >>= λ more. Ok (block.0 ++ more.0, more.1)) (ps, rest) e in
    let block : List (ℕ × ℕ) = x.0.0 in
    let y = bind_ok (blocks_at total n (last_of last block) r x.0.1) (λ more. Ok (block ++ more.0, more.1)) (ps, rest) x.2 in
    let more : List (ℕ × ℕ) = y.0.0 in
    let t = block_takes total last BLOCK_PAIRS bytes block x.0.1 fits x.1 in
    let u = blocks_takes total n (last_of last block) r x.0.1 more y.0.1 t.takes.rest_fits y.1 in
    let whole = Takes-then bytes (block_bytes block) x.0.1 (flat_map block_bytes (blocks_of n more)) y.0.1 t.takes u.takes in
    let made : TakesBody last (BLOCK_PAIRS * suc n + r) (block ++ more) (flat_map block_bytes (blocks_of (suc n) (block ++ more))) bytes y.0.1 =
    record {
      takes = rw (take_at block more BLOCK_PAIRS t.count, drop_at block more BLOCK_PAIRS t.count) whole;
      ascends = ascends_join last block more t.ascends u.ascends;
      count = omega (arith, t.count, u.count, length-append block more);
    } in
    subst (λ (z : List (ℕ × ℕ) × List ℕ). TakesBody last (BLOCK_PAIRS * suc n + r) z.0 (flat_map block_bytes (blocks_of (suc n) z.0)) bytes z.1) (ok_is {E = PackFault} (block ++ more, y.0.1) (ps, rest) y.2) made

-- ## lists of pairs

pub pairs_again : ReadsPairsBack
unfolding pairs_read pair_bytes
pairs_again ps is =
    let n : ℕ = length ps / BLOCK_PAIRS in
    let r : ℕ = length ps % BLOCK_PAIRS in
    let written : List ℕ = flat_map block_bytes (blocks_of n ps) in
    let total : ℕ = length (number_bytes (length ps) ++ written) in
    let whole : blocks_at total n None r (written ++ []) ≡ Ok (ps, []) = blocks_again total n None r ps [] is.ascends (omega arith) (omega arith) in
    let read : blocks_at total n None r written ≡ Ok (ps, []) = ap (blocks_at total n None r) (sym (append-nil written)) ∙ whole in
    rw (packed_again total (length ps) written is.count, read) refl

pub packed_ended : {X : Type 0} (total : ℕ) (x : X × List ℕ) (y : X) → packed_end total x ≡ Ok y → x ≡ (y, [])
packed_ended total (x, []) y e = ap (λ (z : _). (z, [])) (ok_is {E = PackFault} x y e)
packed_ended total (x, b ∷ bytes) y e = absurd (cc)

pub pairs_taken : WritesPairsAsRead
unfolding pairs_read pair_bytes
pairs_taken bytes ps fits e =
    let total : ℕ = length bytes in
    let x = bind_ok (packed_at total bytes) (λ count. blocks_at total (count.0 / BLOCK_PAIRS) None (count.0 % BLOCK_PAIRS) count.1 >>= λ pairs. packed_end total pairs) ps e in
    let count : ℕ = x.0.0 in
    let n : ℕ = count / BLOCK_PAIRS in
    let r : ℕ = count % BLOCK_PAIRS in
    let y = bind_ok (blocks_at total n None r x.0.1) (λ pairs. packed_end total pairs) ps x.2 in
    let t = packed_takes total bytes count x.0.1 fits x.1 in
    let u = blocks_takes total n None r x.0.1 ps [] t.0.rest_fits (y.1 ∙ ap (λ (z : List (ℕ × ℕ) × List ℕ). Ok z) (packed_ended total y.0 ps y.2)) in
    let same : length ps ≡ count = omega (arith, u.count) in
    let written : bytes ≡ number_bytes count ++ flat_map block_bytes (blocks_of n ps) = t.0.parts ∙ ap (λ (z : List ℕ). number_bytes count ++ z) (u.takes.parts ∙ append-nil (flat_map block_bytes (blocks_of n ps))) in
    (subst (λ (k : ℕ). bytes ≡ number_bytes k ++ flat_map block_bytes (blocks_of (k / BLOCK_PAIRS) ps)) (sym same) written, record { count = omega (arith, t.1); ascends = u.ascends })
