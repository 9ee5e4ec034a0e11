-- Written words and numbers, and how they are read back.
use Rattle.std.proofs.Common.{◌≡◌, ℕ, zero, suc, ◌+◌, ◌-◌, ◌*◌, ◌^◌, ◌<◌, ◌≤◌, List, [], ◌∷◌, ◌++◌, length, length-append, get_or, take, drop, true, false, refl, ap, ◌∙◌, arith, rules}
use Rattle.std.specs.Prelude.{◌==◌, ◌&&◌, nat_lt, nat_le, not, Some, slice_index, decimal}
use Rattle.std.specs.List.{onto_first, join_with_byte, list_all, position_or_len}
use Rattle.std.specs.Str.{IsUtf8, IsAscii, all_ascii_digits}
use Rattle.std.specs.Io.BufRead.{ends_with_byte}
use Rattle.std.proofs.Math.Seq.{take-append_seam}
use Rattle.std.proofs.lemmas.Bool.{ne_eqb, eq-eqb, lt-ltb, le-ltb}
use Rattle.std.proofs.lemmas.List.Folds.{list_all-append}
use Rattle.std.proofs.lemmas.List.Splits.{slice_split-cons_no}
use Rattle.std.proofs.lemmas.Str.{IsUtf8-from_ascii, IsUtf8-append}
use Rattle.std.proofs.lemmas.Str.Ascii.{IsAscii-nil, IsAscii-cons}
use Rattle.std.proofs.lemmas.Str.Parse.{IsNumeralModel, numerals_by_fold}
use Rattle.std.proofs.lemmas.Fmt.{digits_decimal, digits_value-decimal, decimal_nonempty, first_decimal, decimal_digit, length-decimal-le}
use Rattle.od_text.specs.Lists.{Each}
use Rattle.od_text.specs.Cuts.{split_once}
use Rattle.od_order.specs.Statements.{words_of}
use Rattle.od_order.specs.declared.script.TheConstants.{NUMBER_DIGITS}
use Rattle.od_order.specs.Names.{is_digit, is_name_byte, is_name, digits_from, script_number}
use Rattle.od_script.proofs.Blocks.{last_byte}
use Rattle.od_script.proofs.WrittenLines.{both, not_true, Avoids, unended, ends_after, IsLine}

-- ## Words

-- a word of bytes that may stand in a name
abbrev pub IsWord : List ℕ → Type 0
IsWord word = list_all is_name_byte word ≡ true

pub name_is_word : (name : List ℕ) → is_name name ≡ true → IsWord name
name_is_word name h = (both (nat_le (length name) 64) (list_all is_name_byte name) ((both (nat_le 1 (length name)) _ h).1)).1

-- it is `-` or behind it, and before `{`
byte_range : (b : ℕ) → is_name_byte b ≡ true → (44 < b) × (b < 123)
byte_range b h = (grind (arith, h), grind (arith, h))

pub word_avoids : (c : ℕ) → c ≤ 44 → (word : List ℕ) → IsWord word → Avoids c word
word_avoids c low [] h = refl
word_avoids c low (b ∷ word) h =
    let t = both (is_name_byte b) (list_all is_name_byte word) h in
    let range = byte_range b t.0 in
    rw (ne_eqb b c (λ same. omega (arith, same, range.0))) (word_avoids c low word t.1)

word_ascii : (word : List ℕ) → IsWord word → IsAscii word
word_ascii [] h = IsAscii-nil
word_ascii (b ∷ word) h =
    let t = both (is_name_byte b) (list_all is_name_byte word) h in
    IsAscii-cons b word (omega (arith, (byte_range b t.0).1)) (word_ascii word t.1)

pub word_utf8 : (word : List ℕ) → IsWord word → IsUtf8 word
word_utf8 word h = IsUtf8-from_ascii word (word_ascii word h)

-- ## Words in a row

pub cut_word : (word rest : List ℕ) → IsWord word → words_of (word ++ 32 ∷ rest) ≡ word ∷ words_of rest
cut_word [] rest h = refl
cut_word (b ∷ word) rest h =
    let t = both (is_name_byte b) (list_all is_name_byte word) h in
    let apart : (b == 32) ≡ false = ne_eqb b 32 (λ same. omega (arith, same, (byte_range b t.0).0)) in
    slice_split-cons_no (λ x. x == 32) b (word ++ 32 ∷ rest) apart ∙ ap (onto_first b) (cut_word word rest t.1)

last_word : (word : List ℕ) → IsWord word → words_of word ≡ word ∷ []
last_word [] h = refl
last_word (b ∷ word) h =
    let t = both (is_name_byte b) (list_all is_name_byte word) h in
    let apart : (b == 32) ≡ false = ne_eqb b 32 (λ same. omega (arith, same, (byte_range b t.0).0)) in
    slice_split-cons_no (λ x. x == 32) b word apart ∙ ap (onto_first b) (last_word word t.1)

-- the words between the spaces are those that were written
pub words_back : (word : List ℕ) (words : List (List ℕ)) → Each IsWord (word ∷ words) → words_of (join_with_byte 32 (word ∷ words)) ≡ word ∷ words
words_back word [] h = last_word word h.0
words_back word (next ∷ words) h = cut_word word (join_with_byte 32 (next ∷ words)) h.0 ∙ ap (λ ws. word ∷ ws) (words_back next words h.1)

joined_avoid : (c : ℕ) → c ≤ 31 → (words : List (List ℕ)) → Each IsWord words → Avoids c (join_with_byte 32 words)
joined_avoid c low [] h = refl
joined_avoid c low (word ∷ []) h = word_avoids c (omega arith) word h.0
joined_avoid c low (word ∷ next ∷ words) h =
    list_all-append (λ b. not (b == c)) word (32 ∷ join_with_byte 32 (next ∷ words))
    ∙ rw (word_avoids c (omega arith) word h.0, ne_eqb 32 c (λ same. omega (arith, same)), joined_avoid c low (next ∷ words) h.1) refl

pub one_byte : (b : ℕ) → b < 128 → IsUtf8 (b ∷ [])
one_byte b low = IsUtf8-from_ascii (b ∷ []) (IsAscii-cons b [] low IsAscii-nil)

joined_utf8 : (words : List (List ℕ)) → Each IsWord words → IsUtf8 (join_with_byte 32 words)
joined_utf8 [] h = word_utf8 [] refl
joined_utf8 (word ∷ []) h = word_utf8 word h.0
joined_utf8 (word ∷ next ∷ words) h =
    IsUtf8-append word (32 ∷ join_with_byte 32 (next ∷ words)) (word_utf8 word h.0)
    (IsUtf8-append (32 ∷ []) (join_with_byte 32 (next ∷ words)) (one_byte 32 (omega arith)) (joined_utf8 (next ∷ words) h.1))

pub words_line : (words : List (List ℕ)) → Each IsWord words → IsLine (join_with_byte 32 words)
words_line words h = record {
  one = joined_avoid 10 (omega arith) words h;
  unreturned = unended 13 (join_with_byte 32 words) (joined_avoid 13 (omega arith) words h);
  good = joined_utf8 words h;
}

-- ## Words cut off

place : (c : ℕ) (a b : List ℕ) → Avoids c a → position_or_len (λ x. x == c) (a ++ c ∷ b) ≡ length a
place c [] b h = rw (eq-eqb c c refl) refl
place c (x ∷ a) b h =
    let t = both (not (x == c)) (list_all (λ y. not (y == c)) a) h in
    rw (not_true (x == c) t.0) (omega (arith, place c a b t.1))

take_front : (a ys : List ℕ) → take (length a) (a ++ ys) ≡ a
take_front a ys = take-append_seam a ys

drop_front : (c : ℕ) (a b : List ℕ) → drop (length a + 1) (a ++ c ∷ b) ≡ b
drop_front c [] b = refl
drop_front c (x ∷ a) b =
    let one_more : length (x ∷ a) + 1 ≡ suc (length a + 1) = omega arith in
    rw one_more (drop_front c a b)

pub cut_once : (c : ℕ) (a b : List ℕ) → Avoids c a → split_once c (a ++ c ∷ b) ≡ Some (a, b)
cut_once c a b h = rw (place c a b h, lt-ltb (length a) (length (a ++ c ∷ b)) (omega (arith, length-append a (c ∷ b))), take_front a (c ∷ b), drop_front c a b) refl

-- what ends behind a space
pub spaced_end : (front pattern : List ℕ) → ends_with_byte 13 pattern ≡ false → ends_with_byte 13 (front ++ 32 ∷ pattern) ≡ false
spaced_end front [] h = last_byte 13 32 front
spaced_end front (x ∷ xs) h = ends_after 13 front 32 (x ∷ xs) ∙ ends_after 13 (32 ∷ []) x xs ∙ h

-- ## Numbers

abbrev read_on : ℕ → List ℕ → ℕ
read_on n [] = n
read_on n (c ∷ cs) = read_on (10 * n + (c - 48)) cs

own : IsNumeralModel (λ ds. all_ascii_digits ds ≡ true) (read_on 0)
own = numerals_by_fold _ (search rules) read_on (search rules)

-- digits are read to the end
digits_back : (n : ℕ) (text : List ℕ) → all_ascii_digits text ≡ true → digits_from n text ≡ Some (read_on n text)
digits_back n [] h = refl
digits_back n (c ∷ cs) h =
    let t = both (nat_le 48 c && nat_le c 57) (all_ascii_digits cs) h in
    let turned : n * 10 + (c - 48) ≡ 10 * n + (c - 48) = omega arith in
    rw (t.0, turned) (digits_back (10 * n + (c - 48)) cs t.1)

no_zero : (n : ℕ) → n < 10 ^ NUMBER_DIGITS → (slice_index (decimal n) 0 == 48 && nat_lt 1 (length (decimal n))) ≡ false
no_zero zero h = rw (decimal_digit 0 (omega arith)) refl
no_zero (suc n) h = rw (ne_eqb (get_or (decimal (suc n)) 0 0) 48 (λ z. omega (arith, z, first_decimal (suc n) (omega arith) (omega (arith, h))))) refl

pub number_back : (n : ℕ) → n < 10 ^ NUMBER_DIGITS → script_number (decimal n) ≡ Some n
number_back n h =
    let some : (length (decimal n) == 0) ≡ false = ne_eqb _ 0 (λ z. omega (arith, z, decimal_nonempty n (omega (arith, h)))) in
    let short : nat_lt NUMBER_DIGITS (length (decimal n)) ≡ false = le-ltb _ _ (length-decimal-le NUMBER_DIGITS n (omega arith) h (omega (arith, h))) in
    rw (some, short, no_zero n h) (digits_back 0 (decimal n) (digits_decimal own n (omega (arith, h))) ∙ ap Some (digits_value-decimal own n (omega (arith, h))))

digit_byte : (b : ℕ) → is_digit b ≡ true → is_name_byte b ≡ true
digit_byte b e = grind (arith, e)

digits_word : (text : List ℕ) → all_ascii_digits text ≡ true → IsWord text
digits_word [] h = refl
digits_word (c ∷ cs) h =
    let t = both (nat_le 48 c && nat_le c 57) (all_ascii_digits cs) h in
    rw (digit_byte c t.0) (digits_word cs t.1)

pub number_word : (n : ℕ) → n < 10 ^ NUMBER_DIGITS → IsWord (decimal n)
number_word n h = digits_word (decimal n) (digits_decimal own n (omega (arith, h)))
