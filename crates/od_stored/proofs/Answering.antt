-- Answers of a function that goes on after others.
use Rattle.std.proofs.Common.{◌≡◌, ℕ, suc, ◌+◌, ◌-◌, ◌<◌, ◌≤◌, List, [], ◌∷◌, ◌++◌, Result, Ok, Err, refl, sym, ap, ◌∙◌, append_assoc, append-nil, arith}
use Rattle.od_stored.specs.declared.fault.CodecFault.{CodecFault}
use Rattle.od_stored.specs.declared.fault.CodecFault.TheVariants as fault
use Rattle.od_stored.specs.Answers.{Tells}
use Rattle.od_stored.specs.Steps.{◌>>=◌, in_a_row}

-- what is told of a first step is told of all
pub tells_on : {A B : Type 0} (f : CodecFault) (r : Result A CodecFault) (all : Result B CodecFault) → ((d : CodecFault) → r ≡ Err d → all ≡ Err d) → Tells f r → Tells f all
tells_on fault.NoMemory r all on e = tt
tells_on (fault.Short at) r all on e = on _ e
tells_on (fault.BadTag at) r all on e = on _ e
tells_on (fault.BadNumber at) r all on e = on _ e
tells_on (fault.BadText at) r all on e = on _ e
tells_on (fault.BadSpan at) r all on e = on _ e
tells_on (fault.Trailing at) r all on e = on _ e

pub fails_on : {A B : Type 0} (r : Result A CodecFault) (f : A → Result B CodecFault) (d : CodecFault) → r ≡ Err d → (r >>= f) ≡ Err d
fails_on (Ok x) f d e = absurd (cc)
fails_on (Err c) f d e = cc

pub tells_then : {A B : Type 0} (f : CodecFault) (r : Result A CodecFault) (k : A → Result B CodecFault) → Tells f r → Tells f (r >>= k)
tells_then f r k e = tells_on f r (r >>= k) (fails_on r k) e

-- ## items in a row, as a loop reads them

-- what was read before, and what is still read
abbrev pub with_front : {X : Type 0} → List X → Result (List X × List ℕ) CodecFault → Result (List X × List ℕ) CodecFault
with_front before read = read >>= λ x. Ok (before ++ x.0, x.1)

regroup : {X : Type 0} (before : List X) (x : X) (read : Result (List X × List ℕ) CodecFault) → with_front before (read >>= λ y. Ok (x ∷ y.0, y.1)) ≡ with_front (before ++ x ∷ []) read
regroup before x (Ok y) = ap (λ (xs : List _). Ok (xs, y.1)) (sym (append_assoc before (x ∷ []) y.0))
regroup before x (Err f) = refl

pub row_goes_on : {X : Type 0} (read : List ℕ → Result (X × List ℕ) CodecFault) (before new : List X) (count i : ℕ) (bytes : List ℕ) (x : X) (left : List ℕ) (total : Result (List X × List ℕ) CodecFault)
    → i < count → read bytes ≡ Ok (x, left) → new ≡ before ++ x ∷ [] → with_front before (in_a_row read (count - i) bytes) ≡ total → with_front new (in_a_row read (count - (i + 1)) left) ≡ total
unfolding in_a_row
row_goes_on read before new count i bytes x left total lt h is so_far =
    let k : count - i ≡ suc (count - (i + 1)) = omega arith in
    let one : with_front before (in_a_row read (count - i) bytes) ≡ with_front (before ++ x ∷ []) (in_a_row read (count - (i + 1)) left) = rw (k, h) (regroup before x (in_a_row read (count - (i + 1)) left)) in
    rw is (sym one ∙ so_far)

pub row_fails : {X : Type 0} (f : CodecFault) (read : List ℕ → Result (X × List ℕ) CodecFault) (before : List X) (count i : ℕ) (bytes : List ℕ) (total : Result (List X × List ℕ) CodecFault)
    → i < count → Tells f (read bytes) → with_front before (in_a_row read (count - i) bytes) ≡ total → Tells f total
unfolding in_a_row
row_fails f read before count i bytes total lt h so_far =
    tells_on f (read bytes) total (λ d e.
    let k : count - i ≡ suc (count - (i + 1)) = omega arith in
    let one : with_front before (in_a_row read (count - i) bytes) ≡ Err d = rw (k, e) refl in
    sym so_far ∙ one) h

pub row_is_done : {X : Type 0} (read : List ℕ → Result (X × List ℕ) CodecFault) (before : List X) (count i : ℕ) (bytes : List ℕ) (total : Result (List X × List ℕ) CodecFault)
    → count ≤ i → with_front before (in_a_row read (count - i) bytes) ≡ total → total ≡ Ok (before, bytes)
unfolding in_a_row
row_is_done read before count i bytes total le so_far =
    let k : count - i ≡ 0 = omega arith in
    let one : with_front before (in_a_row read (count - i) bytes) ≡ Ok (before, bytes) = rw k (ap (λ (xs : List _). Ok (xs, bytes)) (append-nil before)) in
    sym so_far ∙ one
