-- A column is a number exactly where it is what is written for one below a million.
use Rattle.std.proofs.Common.{◌≡◌, ◌≢◌, ℕ, zero, suc, ◌+◌, ◌-◌, ◌*◌, ◌<◌, ◌≤◌, List, [], ◌∷◌, length, Bool, true, false, refl, sym, ap, ◌∙◌, arith, Option, None, Some, get_or, rules}
use Rattle.std.specs.Prelude.{◌==◌, ◌&&◌, if◌then◌else◌, nat_lt, nat_le, decimal, slice_index}
use Rattle.std.specs.Str.{all_ascii_digits}
use Rattle.std.proofs.lemmas.Bool.{ltb-true, ltb-false, lt-ltb, eqb-false, eq-eqb, ne_eqb}
use Rattle.std.proofs.lemmas.Str.Parse.{IsNumeralModel, numerals_by_fold}
use Rattle.std.proofs.lemmas.Fmt.{decimal-digits_value, digits_decimal, digits_value-decimal, decimal_nonempty, first_decimal, decimal_digit}
use Rattle.od_document.specs.declared.limits.TheConstants.{NODE_NUMBERS}
use Rattle.od_document.specs.Columns.{node_number, digits_after, ReadsNumbers}

abbrev pub read_on : ℕ → List ℕ → ℕ
read_on n [] = n
read_on n (c ∷ cs) = read_on (10 * n + (c - 48)) cs

own : IsNumeralModel (λ ds. all_ascii_digits ds ≡ true) (read_on 0)
own = numerals_by_fold _ (search rules) read_on (search rules)

read_on-le : (n : ℕ) (text : List ℕ) → n ≤ read_on n text
read_on-le n [] = omega arith
read_on-le n (c ∷ cs) = omega (arith, read_on-le (10 * n + (c - 48)) cs)

both : (a b : Bool) → (a && b) ≡ true → (a ≡ true) × (b ≡ true)
both true b e = (refl, e)
both false b e = absurd (cc)

taken : {A : Type 0} (t : Bool) (o : Option A) (x : A) → (if t then o else None) ≡ Some x → (t ≡ true) × (o ≡ Some x)
taken true o x e = (refl, e)
taken false o x e = absurd (cc)

left : {A : Type 0} (t : Bool) (o : Option A) (x : A) → (if t then None else o) ≡ Some x → (t ≡ false) × (o ≡ Some x)
left true o x e = absurd (cc)
left false o x e = (refl, e)

digits_read : (n : ℕ) (text : List ℕ) (m : ℕ) → n < NODE_NUMBERS → digits_after n text ≡ Some m → (all_ascii_digits text ≡ true) × (read_on n text ≡ m) × (m < NODE_NUMBERS)
digits_read n [] m h e = let same : n ≡ m = cc in (refl, same, omega (arith, same))
digits_read n (c ∷ cs) m h e =
    let t = taken (nat_le 48 c && nat_le c 57 && nat_lt (n * 10 + (c - 48)) NODE_NUMBERS) (digits_after (n * 10 + (c - 48)) cs) m e in
    let p = both (nat_le 48 c && nat_le c 57) (nat_lt (n * 10 + (c - 48)) NODE_NUMBERS) t.0 in
    let q = both (nat_le 48 c) (nat_le c 57) p.0 in
    let next : n * 10 + (c - 48) < NODE_NUMBERS = ltb-true (n * 10 + (c - 48)) NODE_NUMBERS p.1 in
    let more = digits_read (n * 10 + (c - 48)) cs m next t.1 in
    let turned : 10 * n + (c - 48) ≡ n * 10 + (c - 48) = omega arith in
    (rw (q.0, q.1) more.0, rw turned more.1, more.2)

read_digits : (n : ℕ) (text : List ℕ) → all_ascii_digits text ≡ true → read_on n text < NODE_NUMBERS → digits_after n text ≡ Some (read_on n text)
read_digits n [] e h = refl
read_digits n (c ∷ cs) e h =
    let d = both (nat_le 48 c && nat_le c 57) (all_ascii_digits cs) e in
    let p = both (nat_le 48 c) (nat_le c 57) d.0 in
    let turned : 10 * n + (c - 48) ≡ n * 10 + (c - 48) = omega arith in
    let h' : read_on (n * 10 + (c - 48)) cs < NODE_NUMBERS = rw (← turned) h in
    let small : nat_lt (n * 10 + (c - 48)) NODE_NUMBERS ≡ true = lt-ltb (n * 10 + (c - 48)) NODE_NUMBERS (omega (arith, h', read_on-le (n * 10 + (c - 48)) cs)) in
    rw (p.0, p.1, turned, small) (read_digits (n * 10 + (c - 48)) cs d.1 h')

not_both : (a b : Bool) → (a && b) ≡ false → a ≡ true → b ≡ false
not_both true b e f = e
not_both false b e f = absurd (cc)

from_text : (text : List ℕ) (n : ℕ) → node_number text ≡ Some n → (text ≡ decimal n) × (n < NODE_NUMBERS)
from_text text n e =
    let l = left (length text == 0) _ n e in
    let k = left (slice_index text 0 == 48 && nat_lt 1 (length text)) _ n l.1 in
    let d = digits_read 0 text n (omega arith) k.1 in
    let some : length text ≢ 0 = eqb-false _ _ l.0 in
    let one : get_or text 0 0 ≡ 48 → length text ≡ 1 = λ z. omega (arith, some, ltb-false 1 (length text) (not_both _ _ k.0 (eq-eqb _ 48 z))) in
    let is = decimal-digits_value own text d.0 (omega arith) one (omega (arith, d.1, d.2)) in
    (sym is ∙ ap decimal d.1, d.2)

no_zero : (n : ℕ) → n < NODE_NUMBERS → (slice_index (decimal n) 0 == 48 && nat_lt 1 (length (decimal n))) ≡ false
no_zero zero h = rw (decimal_digit 0 (omega arith)) refl
no_zero (suc n) h = rw (ne_eqb (get_or (decimal (suc n)) 0 0) 48 (λ z. omega (arith, z, first_decimal (suc n) (omega arith) (omega arith)))) refl

to_number : (n : ℕ) → n < NODE_NUMBERS → node_number (decimal n) ≡ Some n
to_number n h =
    let some : (length (decimal n) == 0) ≡ false = ne_eqb _ 0 (λ z. omega (arith, z, decimal_nonempty n (omega arith))) in
    let value : read_on 0 (decimal n) ≡ n = digits_value-decimal own n (omega arith) in
    rw (some, no_zero n h) (read_digits 0 (decimal n) (digits_decimal own n (omega arith)) (omega (arith, value)) ∙ ap (λ m. Some m) value)

pub reads_numbers : ReadsNumbers
reads_numbers text n = (from_text text n, λ h. rw (h.0) (to_number n h.1))
