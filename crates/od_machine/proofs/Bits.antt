-- Lemmas on marks as bits of words.
use Rattle.std.proofs.Common.{◌≡◌, ℕ, zero, suc, ◌+◌, ◌-◌, ◌*◌, ◌/◌, ◌%◌, ◌^◌, ◌<◌, ◌≤◌, ◌⊎◌, ◌≢◌, Bool, true, false, List, [], ◌∷◌, length, refl, sym, ◌∙◌, ap, subst, inl, inr, arith, get_or, set, eqb, max, min, w64}
use Rattle.std.proofs.lemmas.Bool.{cases_eq, cases_lt, lt-ltb, le-ltb}
use Rattle.std.proofs.lemmas.List.{get_or-set_same, get_or-set_other, get_or_past, same_lists}
use Rattle.std.proofs.lemmas.List.FromFn.{get_or-map-range_with_len, length-map-range_with_len}
use Rattle.std.proofs.lemmas.Grind.{one_shifted}
use Rattle.std.proofs.lemmas.Nat.{and_le_l}
use Rattle.std.proofs.lemmas.Nat.Bits.{bit_at-zero, bit_at-lt, bit_at_and, bit_at_or, bit_at_not, bit_at_ones, bit_at_ones_above, shr_and_one, bit_at_set_same, bit_at_set_other}
use Rattle.std.specs.Prelude.{bit_and, bit_or, nat_le, nat_lt, ◌&&◌, if◌then◌else◌}
use Rattle.std.specs.Int.{bit_at, bit_not}
use Rattle.std.specs.List.{Contains}
use Rattle.od_machine.specs.Found.{ClearsPlace}
use Rattle.od_machine.specs.Marks.{mark_in, marks_in, AreNamed, AreOff}

-- how many marks there are
pub marks-length : (words : List ℕ) (count : ℕ) → length (marks_in words count) ≡ count
marks-length words count = length-map-range_with_len (mark_in words) 0 count

-- a mark by its number
pub mark-at : (words : List ℕ) (count n : ℕ) → n < count → get_or (marks_in words count) n false ≡ mark_in words n
mark-at words count n h = get_or-map-range_with_len (mark_in words) 0 count n n false h (omega arith)

-- a mark that is not there
mark-past : (words : List ℕ) (count n : ℕ) → count ≤ n → get_or (marks_in words count) n false ≡ false
mark-past words count n h = get_or_past (marks_in words count) n false (omega (arith, marks-length words count))

-- the test of a bit
pub mark-test : (words : List ℕ) (n : ℕ) → eqb (bit_and (get_or words (n / 64) 0 / 2 ^ (n % 64)) 1) 1 ≡ mark_in words n
unfolding mark_in
mark-test words n = ap (λ z. eqb z 1) (shr_and_one (get_or words (n / 64) 0) (n % 64))

-- blank words have no mark
pub mark-blank : (words : List ℕ) (count n : ℕ) → ((k : ℕ) → get_or words k 0 ≡ 0) → get_or (marks_in words count) n false ≡ false
unfolding mark_in
mark-blank words count n blank =
    elim (cases_lt n count) [
      | inl lt ↦ mark-at words count n lt ∙ ap (λ z. eqb (bit_at z (n % 64)) 1) (blank (n / 64)) ∙ ap (λ z. eqb z 1) (bit_at-zero (n % 64))
      | inr ge ↦ mark-past words count n ge
    ]

-- a word with one more bit
abbrev pub with_bit : ℕ → ℕ → ℕ
with_bit word k = bit_or word (1 * 2 ^ k % 2 ^ 64)

mark-set_same : (words : List ℕ) (n : ℕ) → n / 64 < length words → mark_in (set words (n / 64) (with_bit (get_or words (n / 64) 0) (n % 64))) n ≡ true
unfolding mark_in
mark-set_same words n h =
    ap (λ z. eqb (bit_at z (n % 64)) 1) (get_or-set_same words (n / 64) (with_bit (get_or words (n / 64) 0) (n % 64)) 0 h)
    ∙ ap (λ z. eqb z 1) (bit_at_set_same w64 (get_or words (n / 64) 0) (n % 64) (omega arith))

mark-set_other : (words : List ℕ) (n k : ℕ) → k ≢ n → n / 64 < length words → mark_in (set words (n / 64) (with_bit (get_or words (n / 64) 0) (n % 64))) k ≡ mark_in words k
unfolding mark_in
mark-set_other words n k ne h =
    elim (cases_eq (k / 64) (n / 64)) [
      | inl same ↦
          let apart : k % 64 ≢ n % 64 = λ e. ne (omega arith) in
          ap (λ z. eqb (bit_at (get_or (set words (n / 64) (with_bit (get_or words (n / 64) 0) (n % 64))) z 0) (k % 64)) 1) same
          ∙ ap (λ z. eqb (bit_at z (k % 64)) 1) (get_or-set_same words (n / 64) (with_bit (get_or words (n / 64) 0) (n % 64)) 0 h)
          ∙ ap (λ z. eqb z 1) (bit_at_set_other w64 (get_or words (n / 64) 0) (n % 64) (omega arith) (k % 64) apart)
          ∙ ap (λ z. eqb (bit_at (get_or words z 0) (k % 64)) 1) (sym same)
      | inr other ↦ ap (λ z. eqb (bit_at z (k % 64)) 1) (get_or-set_other words (n / 64) (k / 64) (with_bit (get_or words (n / 64) 0) (n % 64)) 0 other)
    ]

-- a bit that is set sets its mark alone
pub marks-set : (words : List ℕ) (count n : ℕ) → n < count → n / 64 < length words
    → marks_in (set words (n / 64) (with_bit (get_or words (n / 64) 0) (n % 64))) count ≡ set (marks_in words count) n true
marks-set words count n h g =
    let new : List ℕ = set words (n / 64) (with_bit (get_or words (n / 64) 0) (n % 64)) in
    let len : length (set (marks_in words count) n true) ≡ count = length-set (marks_in words count) n true ∙ marks-length words count in
    same_false (marks_in new count) (set (marks_in words count) n true) (marks-length new count ∙ sym len)
    (λ k lt.
    let within : k < count = omega (arith, marks-length new count) in
    mark-at new count k within ∙
    elim (cases_eq k n) [
      | inl same ↦
          ap (mark_in new) same ∙ mark-set_same words n g
          ∙ sym (ap (λ z. get_or (set (marks_in words count) n true) z false) same ∙ get_or-set_same (marks_in words count) n true false (omega (arith, marks-length words count)))
      | inr other ↦ mark-set_other words n k other g ∙ sym (mark-at words count k within) ∙ sym (get_or-set_other (marks_in words count) n k true false other)
    ])
  where
    length-set : (xs : List Bool) (i : ℕ) (y : Bool) → length (set xs i y) ≡ length xs
    length-set [] i y = refl
    length-set (x ∷ xs) zero y = refl
    length-set (x ∷ xs) (suc i) y = ap suc (length-set xs i y)

    default : (xs : List Bool) (k : ℕ) (d d' : Bool) → k < length xs → get_or xs k d ≡ get_or xs k d'
    default [] k d d' h = absurd (omega arith)
    default (x ∷ xs) zero d d' h = refl
    default (x ∷ xs) (suc k) d d' h = default xs k d d' (omega arith)

    same_false : (xs ys : List Bool) → (e : length xs ≡ length ys) → ((k : ℕ) → k < length xs → get_or xs k false ≡ get_or ys k false) → xs ≡ ys
    same_false xs ys e f = same_lists xs ys e (λ k d lt. default xs k d false lt ∙ f k lt ∙ default ys k false d (omega arith))

-- the word is named, whether it was blank or not
pub named-set : (words named named' : List ℕ) (number word : ℕ) → AreNamed words named → ((k : ℕ) → Contains named k → Contains named' k)
    → (get_or words number 0 ≡ 0 → Contains named' number) → AreNamed (set words number word) named'
named-set words named named' number word old kept noted k pos =
    elim (cases_eq k number) [
      | inl same ↦
          subst (λ (z : ℕ). Contains named' z) (sym same)
          (elim (cases_eq (get_or words number 0) 0) [
            | inl blank ↦ noted blank
            | inr full ↦ kept number (old number (omega arith))
          ])
      | inr other ↦ kept k (old k (let e : get_or (set words number word) k 0 ≡ get_or words k 0 = get_or-set_other words number k word 0 other in omega arith))
    ]

-- the test of a range
abbrev pub in_range : ℕ → ℕ → ℕ → Bool
in_range from to n = nat_le from n && nat_lt n to

-- cleared bits are cleared marks
module _ (old new : List ℕ) (count from to : ℕ) (order : from ≤ to)
    (before : (k : ℕ) → (k < from / 64) ⊎ ((to + 63) / 64 ≤ k) → get_or new k 0 ≡ get_or old k 0)
    (bits : (k i : ℕ) → from / 64 ≤ k → k < (to + 63) / 64 → i < 64
    → bit_at (get_or new k 0) i ≡ (if in_range from to (k * 64 + i) then 0 else bit_at (get_or old k 0) i))
  where
    bit-of : (n : ℕ) → from / 64 ≤ n / 64 → n / 64 < (to + 63) / 64
        → bit_at (get_or new (n / 64) 0) (n % 64) ≡ (if in_range from to n then 0 else bit_at (get_or old (n / 64) 0) (n % 64))
    bit-of n low high =
        bits (n / 64) (n % 64) low high (omega arith)
        ∙ ap (λ z. if in_range from to z then 0 else bit_at (get_or old (n / 64) 0) (n % 64)) (let q : n / 64 * 64 + n % 64 ≡ n = omega arith in q)

    mark-off : (n : ℕ) → from ≤ n → n < to → mark_in new n ≡ false
    unfolding mark_in
    mark-off n low high =
        let yes : in_range from to n ≡ true = inside from n to low high in
        ap (λ z. eqb z 1) (bit-of n (omega arith) (omega arith) ∙ ap (λ (b : Bool). if b then 0 else bit_at (get_or old (n / 64) 0) (n % 64)) yes)
      where
        inside : (a i b : ℕ) → a ≤ i → i < b → in_range a b i ≡ true
        inside a i b h g = grind arith

    mark-kept : (n : ℕ) → (n < from) ⊎ (to ≤ n) → mark_in new n ≡ mark_in old n
    unfolding mark_in
    mark-kept n out =
        let no : in_range from to n ≡ false = outside from n to out in
        elim (cases_lt (n / 64) (from / 64)) [
          | inl lt ↦ ap (λ z. eqb (bit_at z (n % 64)) 1) (before (n / 64) (inl lt))
          | inr ge ↦
              elim (cases_lt (n / 64) ((to + 63) / 64)) [
                | inr gt ↦ ap (λ z. eqb (bit_at z (n % 64)) 1) (before (n / 64) (inr gt))
                | inl le ↦ ap (λ z. eqb z 1) (bit-of n ge le ∙ ap (λ (b : Bool). if b then 0 else bit_at (get_or old (n / 64) 0) (n % 64)) no)
              ]
        ]
      where
        outside : (a i b : ℕ) → (i < a) ⊎ (b ≤ i) → in_range a b i ≡ false
        outside a i b h = grind arith

    pub marks-off : AreOff from to (marks_in old count) (marks_in new count)
    marks-off = record {
      off = λ n low high.
          elim (cases_lt n count) [
            | inl lt ↦ mark-at new count n lt ∙ mark-off n low high
            | inr ge ↦ mark-past new count n ge
          ];
      others = λ n out.
          elim (cases_lt n count) [
            | inl lt ↦ mark-at new count n lt ∙ mark-kept n out ∙ sym (mark-at old count n lt)
            | inr ge ↦ mark-past new count n ge ∙ sym (mark-past old count n ge)
          ];
    }

-- the lowest bits, so many
pub some_ones : (n i : ℕ) → n < 64 → i < 64 → bit_at (1 * 2 ^ n % 2 ^ 64 - 1) i ≡ (if nat_lt i n then 1 else 0)
some_ones n i h g =
    ap (λ z. bit_at (z - 1) i) (one_shifted n (2 ^ 64 - 1) refl h).0 ∙
    elim (cases_lt i n) [
      | inl lt ↦ bit_at_ones n i lt ∙ sym (ap (λ (b : Bool). if b then 1 else 0) (lt-ltb i n lt))
      | inr ge ↦ bit_at_ones_above n i ge ∙ sym (ap (λ (b : Bool). if b then 1 else 0) (le-ltb i n ge))
    ]

-- all bits
pub all_ones : (n i : ℕ) → 64 ≤ n → i < 64 → bit_at (2 ^ 64 - 1) i ≡ (if nat_lt i n then 1 else 0)
all_ones n i h g = bit_at_ones 64 i g ∙ sym (ap (λ (b : Bool). if b then 1 else 0) (lt-ltb i n (omega arith)))

-- the bits before a range or behind it
pub outside_bit : (a b first from to i : ℕ) → b < 2 ^ 64 → first < to → i < 64
    → bit_at a i ≡ (if nat_lt i (from - first) then 1 else 0) → bit_at b i ≡ (if nat_lt i (to - first) then 1 else 0)
    → bit_at (bit_or a (bit_not w64 b)) i ≡ (if in_range from to (first + i) then 0 else 1)
outside_bit a b first from to i small order h p q =
    let both : bit_at (bit_or a (bit_not w64 b)) i ≡ max (bit_at a i) (bit_at (bit_not w64 b) i) = bit_at_or a (bit_not w64 b) i in
    let flip : bit_at (bit_not w64 b) i ≡ 1 - bit_at b i = bit_at_not w64 b i small h in
    let value : bit_at (bit_or a (bit_not w64 b)) i ≡ max (if nat_lt i (from - first) then 1 else 0) (1 - (if nat_lt i (to - first) then 1 else 0)) =
    both ∙ ap (λ (z : ℕ). max z (bit_at (bit_not w64 b) i)) p ∙ ap (max (if nat_lt i (from - first) then 1 else 0)) (flip ∙ ap (λ (z : ℕ). 1 - z) q) in
    value ∙ cases i (first + i) first from to refl order
  where
    cases : (i n first from to : ℕ) → n ≡ first + i → first < to → max (if nat_lt i (from - first) then 1 else 0) (1 - (if nat_lt i (to - first) then 1 else 0)) ≡ (if in_range from to n then 0 else 1)
    cases i n first from to e h = grind arith

-- one word more is cleared of a range
module _ (from to k word mask : ℕ) (first now : List ℕ) (low : from / 64 ≤ k) (inside : k < length now) (is : word ≡ get_or now k 0)
    (masks : (i : ℕ) → i < 64 → bit_at mask i ≡ (if in_range from to (k * 64 + i) then 0 else 1))
    (before : (j : ℕ) → (j < from / 64) ⊎ (k ≤ j) → get_or now j 0 ≡ get_or first j 0)
  where
    abbrev next : List ℕ
    next = set now k (bit_and word mask)

    next-other : (j : ℕ) → j ≢ k → get_or next j 0 ≡ get_or now j 0
    next-other j ne = get_or-set_other now k j (bit_and word mask) 0 ne

    next-here : get_or next k 0 ≡ bit_and word mask
    next-here = get_or-set_same now k (bit_and word mask) 0 inside

    pub cleared-before : (j : ℕ) → (j < from / 64) ⊎ (k + 1 ≤ j) → get_or next j 0 ≡ get_or first j 0
    cleared-before j (inl lt) = next-other j (λ e. absurd (omega arith)) ∙ before j (inl lt)
    cleared-before j (inr ge) = next-other j (λ e. absurd (omega arith)) ∙ before j (inr (omega arith))

    masked : (b : Bool) (w m : ℕ) → w < 2 → m ≡ (if b then 0 else 1) → min w m ≡ (if b then 0 else w)
    masked true w m lt e = omega arith
    masked false w m lt e = omega arith

    pub cleared-bits : ((j i : ℕ) → from / 64 ≤ j → j < k → i < 64
        → bit_at (get_or now j 0) i ≡ (if in_range from to (j * 64 + i) then 0 else bit_at (get_or first j 0) i))
        → (j i : ℕ) → from / 64 ≤ j → j < k + 1 → i < 64
        → bit_at (get_or next j 0) i ≡ (if in_range from to (j * 64 + i) then 0 else bit_at (get_or first j 0) i)
    cleared-bits bits j i ge lt small =
        elim (cases_eq j k) [
          | inl same ↦
              let b : Bool = in_range from to (k * 64 + i) in
              let here : bit_at (get_or next k 0) i ≡ (if in_range from to (k * 64 + i) then 0 else bit_at (get_or first k 0) i) =
              ap (λ z. bit_at z i) next-here ∙ bit_at_and word mask i
              ∙ masked (in_range from to (k * 64 + i)) (bit_at word i) (bit_at mask i) (bit_at-lt word i) (masks i small)
              ∙ ap (λ z. if in_range from to (k * 64 + i) then 0 else bit_at z i) (is ∙ before k (inr (omega arith))) in
              subst (λ (z : ℕ). bit_at (get_or next z 0) i ≡ (if in_range from to (z * 64 + i) then 0 else bit_at (get_or first z 0) i)) (sym same) here
          | inr other ↦ ap (λ z. bit_at z i) (next-other j other) ∙ bits j i ge (omega arith) small
        ]

    pub cleared-lower : ((j : ℕ) → get_or now j 0 ≤ get_or first j 0) → (j : ℕ) → get_or next j 0 ≤ get_or first j 0
    cleared-lower lower j =
        elim (cases_eq j k) [
          | inl same ↦
              let here : get_or next k 0 ≤ get_or first k 0 = omega (arith, next-here, and_le_l word mask, is, lower k) in
              subst (λ (z : ℕ). get_or next z 0 ≤ get_or first z 0) (sym same) here
          | inr other ↦ omega (arith, next-other j other, lower j)
        ]

-- the marks of a place are off
pub clears_place : (width at to : ℕ) (old new : List Bool) → to ≡ at * width + width → AreOff (at * width) to old new → ClearsPlace width at old new
clears_place width at to old new e off n set =
    let next : (at + 1) * width ≡ at * width + width = omega arith in
    elim (cases_lt n (at * width)) [
      | inl lt ↦ (sym (off.others n (inl lt)) ∙ set, inl lt)
      | inr low ↦
          elim (cases_lt n to) [
            | inl lt ↦ absurd (let p : false ≡ true = sym (off.off n low lt) ∙ set in cc)
            | inr ge ↦ (sym (off.others n (inr ge)) ∙ set, inr (omega (arith, next)))
          ]
    ]
