-- A text is a priority exactly where it is written for it.
use Rattle.std.proofs.Common.{◌≡◌, ◌≢◌, ℕ, zero, suc, ◌+◌, ◌-◌, ◌*◌, ◌<◌, ◌≤◌, List, [], ◌∷◌, ◌++◌, length, get_or, Bool, true, false, refl, sym, ap, ◌∙◌, subst, arith, rules, Option, None, Some, ap₂}
use Rattle.std.specs.Prelude.{◌==◌, ◌&&◌, if◌then◌else◌, nat_lt, nat_le, not, decimal}
use Rattle.std.specs.List.{list_all}
use Rattle.std.specs.Char.{is_ascii_digit}
use Rattle.std.specs.Str.{all_ascii_digits}
use Rattle.std.proofs.lemmas.Bool.{false≢true, ltb-false, leb-true, le-ltb, le-leb, eqb-true, eq-eqb, ne_eqb}
use Rattle.std.proofs.lemmas.List.Folds.{list_all-append}
use Rattle.std.proofs.lemmas.Str.Parse.{IsNumeralModel, numerals_by_fold}
use Rattle.std.proofs.lemmas.Fmt.{decimal-digits_value, digits_decimal, digits_value-decimal, decimal_nonempty, first_decimal, decimal_digit}
use Rattle.od_text.specs.Cuts.{split_once}
use Rattle.od_pattern.specs.declared.rule.Priority.{Priority}
use Rattle.od_language.specs.Spelling.{number, value_from}
use Rattle.od_rule_text.specs.declared.limits.TheConstants.{LAST_ROUND}
use Rattle.od_rule_text.specs.Priorities.{as_round, round_of, only_in, always_from, from_to, cut_at_plus, cut_at_dash, priority_of}
use Rattle.od_rule_text.specs.Laws.{IsWritten, one_round, range, endless, ReadsPriorities}
use Rattle.od_rule_text.proofs.Outcomes.{not_false, same_some, both, taken}
use Rattle.od_rule_text.proofs.Cutting.{Avoids, cut_parts, cut_at, uncut}

-- ## Digits and their number

abbrev read_on : ℕ → List ℕ → ℕ
read_on n [] = n
read_on n (c ∷ cs) = read_on (10 * n + (c - 48)) cs

own : IsNumeralModel (λ ds. all_ascii_digits ds ≡ true) (read_on 0)
own = numerals_by_fold _ (search rules) read_on (search rules)

value-read_on : (n : ℕ) (text : List ℕ) → value_from n text ≡ read_on n text
value-read_on n [] = refl
value-read_on n (c ∷ cs) =
    let turned : n * 10 + (c - 48) ≡ 10 * n + (c - 48) = omega arith in
    rw turned (value-read_on (10 * n + (c - 48)) cs)

all-digits : (text : List ℕ) → list_all is_ascii_digit text ≡ all_ascii_digits text
all-digits [] = refl
all-digits (c ∷ cs) = ap (λ b. is_ascii_digit c && b) (all-digits cs)

not_both : (a b : Bool) → (a && b) ≡ false → a ≡ true → b ≡ false
not_both true b e f = e
not_both false b e f = absurd (cc)

and_false : (a b : Bool) → (a ≡ true → b ≡ false) → (a && b) ≡ false
and_false true b h = h refl
and_false false b h = refl

passed_over : {X : Type 0} (t : Bool) (o : Option X) (x : X) → (if t then None else o) ≡ Some x → (t ≡ false) × (o ≡ Some x)
passed_over true o x e = absurd (cc)
passed_over false o x e = (refl, e)

-- in digits of which the first is a 0 that leads no others, the 0 stands alone
alone : (d : ℕ) (more : List ℕ) → (d == 48 && not (length more == 0)) ≡ false → d ≡ 48 → length (d ∷ more) ≡ 1
alone d more e is = omega (arith, eqb-true (length more) 0 (not_false _ (not_both _ _ e (eq-eqb d 48 is))))

leads_none : (d : ℕ) (more : List ℕ) → (d ≡ 48 → length (d ∷ more) ≡ 1) → (d == 48 && not (length more == 0)) ≡ false
leads_none d more h = and_false (d == 48) (not (length more == 0)) (λ t. ap not (eq-eqb (length more) 0 (omega (arith, h (eqb-true d 48 t)))))

-- digits whose number is n are what is written for n
number_written : (text : List ℕ) (n : ℕ) → list_all is_ascii_digit text ≡ true → number text ≡ Some n → text ≡ decimal n
number_written [] n digital e = absurd (cc)
number_written (d ∷ more) n digital e =
    let first = passed_over (d == 48 && not (length more == 0)) _ n e in
    let small = passed_over (nat_lt 1000 (value_from 0 (d ∷ more))) _ n first.1 in
    let value : value_from 0 (d ∷ more) ≡ n = same_some _ _ n refl small.1 in
    let read : read_on 0 (d ∷ more) ≡ value_from 0 (d ∷ more) = sym (value-read_on 0 (d ∷ more)) in
    let bounded : value_from 0 (d ∷ more) ≤ 1000 = ltb-false 1000 _ small.0 in
    let digits : all_ascii_digits (d ∷ more) ≡ true = sym (all-digits (d ∷ more)) ∙ digital in
    let is = decimal-digits_value own (d ∷ more) digits (omega arith) (alone d more first.0) (omega (arith, bounded, read)) in
    sym is ∙ ap decimal (read ∙ value)

-- and what is written for n has the number n
digits_number : (text : List ℕ) (n : ℕ) → 0 < length text → (get_or text 0 0 ≡ 48 → length text ≡ 1) → value_from 0 text ≡ n → n ≤ 1000 → number text ≡ Some n
digits_number [] n some first value small = absurd (omega (arith, some))
digits_number (d ∷ more) n some first value small = rw (leads_none d more first, value, le-ltb _ _ small) refl

zero_alone : (n : ℕ) → n ≤ 1000 → get_or (decimal n) 0 0 ≡ 48 → length (decimal n) ≡ 1
zero_alone zero h e = rw (decimal_digit 0 (omega arith)) refl
zero_alone (suc n) h e = absurd (omega (arith, e, first_decimal (suc n) (omega arith) (omega (arith, h))))

written_number : (n : ℕ) → n ≤ 1000 → number (decimal n) ≡ Some n
written_number n h =
    digits_number (decimal n) n (decimal_nonempty n (omega (arith, h))) (zero_alone n h)
    (value-read_on 0 (decimal n) ∙ digits_value-decimal own n (omega (arith, h))) h

written_digits : (n : ℕ) → n ≤ 1000 → list_all is_ascii_digit (decimal n) ≡ true
written_digits n h = all-digits (decimal n) ∙ digits_decimal own n (omega (arith, h))

-- ## Rounds

as_round_some : (o : Option ℕ) (n : ℕ) → as_round o ≡ Some n → (o ≡ Some n) × (1 ≤ n) × (n ≤ LAST_ROUND)
as_round_some None n e = absurd (cc)
as_round_some (Some m) n e =
    let t = taken (nat_le 1 m && nat_le m LAST_ROUND) (Some m) n e in
    let same : m ≡ n = same_some _ m n refl t.1 in
    let b = both (nat_le 1 m) (nat_le m LAST_ROUND) t.0 in
    (t.1, subst (λ k. 1 ≤ k) same (leb-true 1 m b.0), subst (λ k. k ≤ LAST_ROUND) same (leb-true m LAST_ROUND b.1))

round_written : (text : List ℕ) (n : ℕ) → round_of text ≡ Some n → (text ≡ decimal n) × (1 ≤ n) × (n ≤ LAST_ROUND)
round_written text n e =
    let t = taken (list_all is_ascii_digit text) (as_round (number text)) n e in
    let r = as_round_some (number text) n t.1 in
    (number_written text n t.0 r.0, r.1, r.2)

written_round : (n : ℕ) → 1 ≤ n → n ≤ LAST_ROUND → round_of (decimal n) ≡ Some n
written_round n some small = rw (written_digits n (omega (arith, small)), written_number n (omega (arith, small)), le-leb 1 n some, le-leb n LAST_ROUND small) refl

-- digits have neither `-` nor `+` among them
digits_avoid : (c : ℕ) → is_ascii_digit c ≡ false → (xs : List ℕ) → list_all is_ascii_digit xs ≡ true → Avoids c xs
digits_avoid c other [] h = refl
digits_avoid c other (x ∷ xs) h =
    let t = both (is_ascii_digit x) (list_all is_ascii_digit xs) h in
    let apart : x ≢ c = λ same. false≢true (sym other ∙ ap is_ascii_digit (sym same) ∙ t.0) in
    rw (ne_eqb x c apart) (digits_avoid c other xs t.1)

written_avoids : (c : ℕ) → is_ascii_digit c ≡ false → (n : ℕ) → n ≤ LAST_ROUND → Avoids c (decimal n)
written_avoids c other n h = digits_avoid c other (decimal n) (written_digits n (omega (arith, h)))

-- ## From a text to its priority

only_in_some : (o : Option ℕ) (p : Priority) → only_in o ≡ Some p → (n : ℕ) × (o ≡ Some n) × (p ≡ record { first = n; last = Some n })
only_in_some None p e = absurd (cc)
only_in_some (Some n) p e = (n, refl, sym (same_some _ _ p refl e))

always_from_some : (o : Option ℕ) (p : Priority) → always_from o ≡ Some p → (n : ℕ) × (o ≡ Some n) × (p ≡ record { first = n; last = None })
always_from_some None p e = absurd (cc)
always_from_some (Some n) p e = (n, refl, sym (same_some _ _ p refl e))

from_to_some : (a b : Option ℕ) (p : Priority) → from_to a b ≡ Some p → (n : ℕ) × (m : ℕ) × (a ≡ Some n) × (b ≡ Some m) × (n ≤ m) × (p ≡ record { first = n; last = Some m })
from_to_some None b p e = absurd (cc)
from_to_some (Some n) None p e = absurd (cc)
from_to_some (Some n) (Some m) p e =
    let t = taken (nat_le n m) _ p e in
    (n, m, refl, refl, leb-true n m t.0, sym (same_some _ _ p refl t.1))

at_plus : (text : List ℕ) (o : Option (List ℕ × List ℕ)) → split_once 43 text ≡ o → (p : Priority) → cut_at_plus text o ≡ Some p → IsWritten text p
at_plus text None s p e =
    let o = only_in_some (round_of text) p e in
    let r = round_written text o.0 o.1 in
    one_round o.0 (r.1, r.2) r.0 o.2
at_plus text (Some (before, [])) s p e =
    let a = always_from_some (round_of before) p e in
    let r = round_written before a.0 a.1 in
    endless a.0 (r.1, r.2) (cut_parts 43 text (before, []) s ∙ ap (λ front. front ++ 43 ∷ []) r.0) a.2
at_plus text (Some (before, c ∷ behind)) s p e = absurd (cc)

at_dash : (text : List ℕ) (o : Option (List ℕ × List ℕ)) → split_once 45 text ≡ o → (p : Priority) → cut_at_dash text o ≡ Some p → IsWritten text p
at_dash text None s p e = at_plus text (split_once 43 text) refl p e
at_dash text (Some q) s p e =
    let f = from_to_some (round_of q.0) (round_of q.1) p e in
    let from = round_written q.0 f.0 f.2 in
    let to = round_written q.1 f.1 f.3 in
    range f.0 f.1 (from.1, from.2) (to.1, to.2) f.4 (cut_parts 45 text q s ∙ ap₂ (λ front behind. front ++ 45 ∷ behind) from.0 to.0) f.5

read : (text : List ℕ) (p : Priority) → priority_of text ≡ Some p → IsWritten text p
unfolding priority_of
read text p e = at_dash text (split_once 45 text) refl p e

-- ## From what is written to the priority

written_one : (n : ℕ) → 1 ≤ n → n ≤ LAST_ROUND → priority_of (decimal n) ≡ Some (record { first = n; last = Some n })
unfolding priority_of
written_one n some small =
    rw (uncut 45 (decimal n) (written_avoids 45 refl n small), uncut 43 (decimal n) (written_avoids 43 refl n small), written_round n some small) refl

written_range : (n m : ℕ) → 1 ≤ n → n ≤ m → m ≤ LAST_ROUND → priority_of (decimal n ++ 45 ∷ decimal m) ≡ Some (record { first = n; last = Some m })
unfolding priority_of
written_range n m some le small =
    let below : n ≤ LAST_ROUND = omega (arith, le, small) in
    let above : 1 ≤ m = omega (arith, some, le) in
    rw (cut_at 45 (decimal n) (decimal m) (written_avoids 45 refl n below), written_round n some below, written_round m above small, le-leb n m le) refl

plus_avoids : (n : ℕ) → n ≤ LAST_ROUND → Avoids 45 (decimal n ++ 43 ∷ [])
plus_avoids n h = list_all-append (λ x. not (x == 45)) (decimal n) (43 ∷ []) ∙ rw (written_avoids 45 refl n h) refl

written_endless : (n : ℕ) → 1 ≤ n → n ≤ LAST_ROUND → priority_of (decimal n ++ 43 ∷ []) ≡ Some (record { first = n; last = None })
unfolding priority_of
written_endless n some small =
    rw (uncut 45 (decimal n ++ 43 ∷ []) (plus_avoids n small), cut_at 43 (decimal n) [] (written_avoids 43 refl n small), written_round n some small) refl

written : (text : List ℕ) (p : Priority) → IsWritten text p → priority_of text ≡ Some p
written text p (one_round n round is gives) = rw (is, gives) (written_one n round.0 round.1)
written text p (range n m from to le is gives) = rw (is, gives) (written_range n m from.0 le to.1)
written text p (endless n round is gives) = rw (is, gives) (written_endless n round.0 round.1)

pub reads_priorities : ReadsPriorities
reads_priorities text p = (read text p, written text p)
