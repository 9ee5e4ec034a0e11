-- Lines, their texts, and blocks of lines.
use Rattle.std.proofs.Common.{◌≡◌, ℕ, zero, suc, ◌+◌, ◌-◌, ◌<◌, ◌≤◌, List, [], ◌∷◌, ◌++◌, length, get_or, take, drop, Bool, true, false, refl, sym, ap, ◌∙◌, arith, add-one, append_assoc, length-append, length-drop}
use Rattle.std.specs.Prelude.{◌==◌, nat_lt, not, slice_index, Some, None, if◌then◌else◌}
use Rattle.std.specs.Io.BufRead.{ends_with_byte, strip_last}
use Rattle.std.specs.List.{concat, position, position_or_len}
use Rattle.std.specs.Str.{IsUtf8, is_utf8}
use Rattle.std.proofs.Math.Seq.{take-append_seam, drop-append_seam}
use Rattle.std.proofs.lemmas.Bool.{lt-ltb, le-ltb, ltb-true, ltb-false, eqb-true}
use Rattle.std.proofs.lemmas.List.{take-append-drop}
use Rattle.std.proofs.lemmas.List.Sums.{fails_before_first, passes_at_first}
use Rattle.std.proofs.lemmas.Str.{IsUtf8-from_is_utf8, is_utf8-from_IsUtf8}
use Rattle.od_order.specs.Lines.{whole_lines, line_text, has_bad_byte}
use Rattle.od_script.specs.Blocks.{Passed}

append_none : {X : Type 0} (xs : List X) → xs ≡ xs ++ []
append_none [] = refl
append_none (x ∷ xs) = ap (λ ys. x ∷ ys) (append_none xs)

-- ## The first line

-- up to the first line feed
first_at : (xs : List ℕ) (k : ℕ) → k < length xs → get_or xs k 0 ≡ 10 → ((j : ℕ) → j < k → (get_or xs j 0 == 10) ≡ false)
    → whole_lines xs ≡ take (suc k) xs ∷ whole_lines (drop (suc k) xs)
first_at [] k within is none = absurd (omega arith)
first_at (x ∷ xs) zero within is none = rw is refl
first_at (x ∷ xs) (suc k) within is none =
    rw (none 0 (omega arith)) (rw (first_at xs k (omega arith) is (λ j less. none (suc j) (omega arith))) refl)

-- without a line feed all is one line
one_line : (x : ℕ) (xs : List ℕ) → ((j : ℕ) → j < suc (length xs) → (get_or (x ∷ xs) j 0 == 10) ≡ false) → whole_lines (x ∷ xs) ≡ (x ∷ xs) ∷ []
one_line x [] none = rw (none 0 (omega arith)) refl
one_line x (y ∷ ys) none = rw (none 0 (omega arith)) (rw (one_line y ys (λ j less. none (suc j) (omega arith))) refl)

none_false : {A : Type 0} (t : Bool) (p : A) → (if t then Some p else None) ≡ None → t ≡ false
none_false true p e = absurd (cc)
none_false false p e = refl

some_true : {A : Type 0} (t : Bool) (p q : A) → (if t then Some p else None) ≡ Some q → (t ≡ true) × (p ≡ q)
some_true true p q e = (refl, cc)
some_true false p q e = absurd (cc)

-- as the place of the first line feed tells
pub line_ended : (xs : List ℕ) (k : ℕ) → Some k ≡ position (λ b. b == 10) xs
    → (whole_lines xs ≡ take (k + 1) xs ∷ whole_lines (drop (k + 1) xs)) × (xs ≡ take (k + 1) xs ++ drop (k + 1) xs)
line_ended xs k e =
    let t = some_true (nat_lt (position_or_len (λ b. b == 10) xs) (length xs)) (position_or_len (λ b. b == 10) xs) k (sym e) in
    let within : position_or_len (λ b. b == 10) xs < length xs = ltb-true _ _ t.0 in
    let at : whole_lines xs ≡ take (suc (position_or_len (λ b. b == 10) xs)) xs ∷ whole_lines (drop (suc (position_or_len (λ b. b == 10) xs)) xs) =
    first_at xs (position_or_len (λ b. b == 10) xs) within (eqb-true _ _ (passes_at_first (λ b. b == 10) xs 0 within)) (λ j less. fails_before_first (λ b. b == 10) xs j 0 less) in
    (rw (← t.1, add-one) at, sym (take-append-drop (k + 1) xs))

pub line_unended : (xs : List ℕ) → None ≡ position (λ b. b == 10) xs → (length xs == 0) ≡ false
    → (whole_lines xs ≡ xs ∷ []) × (xs ≡ xs ++ []) × (0 < length xs)
line_unended [] e some = absurd (cc)
line_unended (x ∷ xs) e some =
    let past : length (x ∷ xs) ≤ position_or_len (λ b. b == 10) (x ∷ xs) = ltb-false _ _ (none_false _ _ (sym e)) in
    (one_line x xs (λ j less. fails_before_first (λ b. b == 10) (x ∷ xs) j 0 (omega arith)), append_none (x ∷ xs), omega arith)

-- ## The text of a line

last_is : (c : ℕ) (xs : List ℕ) → slice_index (xs ++ c ∷ []) (length xs) ≡ c
last_is c [] = refl
last_is c (x ∷ xs) = last_is c xs

-- whether the last byte is that one
pub last_byte : (c y : ℕ) (xs : List ℕ) → ends_with_byte c (xs ++ y ∷ []) ≡ (y == c)
last_byte c y xs =
    let long : length (xs ++ y ∷ []) ≡ length xs + 1 = length-append xs (y ∷ []) in
    let last : length xs + 1 - 1 ≡ length xs = omega arith in
    rw long (rw (lt-ltb 0 (length xs + 1) (omega arith), last) (rw (last_is y xs) refl))

pub split_last : (x : ℕ) (xs : List ℕ) → (front : List ℕ) × (y : ℕ) × (x ∷ xs ≡ front ++ y ∷ [])
split_last x [] = ([], x, refl)
split_last x (z ∷ xs) = let s = split_last z xs in (x ∷ s.0, s.1, ap (λ ys. x ∷ ys) s.2)

not_last : (c y : ℕ) (front : List ℕ) (b : Bool) → (y == c) ≡ b → (front ++ y ∷ [] ≡ front ++ c ∷ [] → ⊥) → b ≡ false
not_last c y front true e none = absurd (none (ap (λ z. front ++ z ∷ []) (eqb-true y c e)))
not_last c y front false e none = refl

-- bytes that do not end with this one
not_ended : (c : ℕ) (xs : List ℕ) → ((front : List ℕ) → xs ≡ front ++ c ∷ [] → ⊥) → ends_with_byte c xs ≡ false
not_ended c [] none = refl
not_ended c (x ∷ xs) none =
    let s = split_last x xs in
    ap (ends_with_byte c) s.2 ∙ last_byte c s.1 s.0 ∙ not_last c s.1 s.0 (s.1 == c) refl (λ e. none s.0 (s.2 ∙ e))

pub unended_text : (line : List ℕ) → ((front : List ℕ) → line ≡ front ++ 10 ∷ [] → ⊥) → line ≡ line_text line
unended_text line none = rw (not_ended 10 line none) refl

without_last : (c : ℕ) (xs : List ℕ) → take (length (xs ++ c ∷ []) - 1) (xs ++ c ∷ []) ≡ xs
without_last c xs =
    let last : length (xs ++ c ∷ []) - 1 ≡ length xs = omega (arith, length-append xs (c ∷ [])) in
    rw last (take-append_seam xs (c ∷ []))

strip_yes : (c : ℕ) (xs : List ℕ) → (c == c) ≡ true → strip_last c (xs ++ c ∷ []) ≡ xs
strip_yes c xs same = rw (last_byte c c xs, same) (without_last c xs)

strip_no : (c : ℕ) (xs : List ℕ) → ((front : List ℕ) → xs ≡ front ++ c ∷ [] → ⊥) → strip_last c xs ≡ xs
strip_no c xs none = rw (not_ended c xs none) refl

pub text_of_ended : (ended : List ℕ) → line_text (ended ++ 10 ∷ []) ≡ strip_last 13 ended
text_of_ended ended = rw (last_byte 10 10 ended) (ap (strip_last 13) (without_last 10 ended))

pub ended_text : (line ended : List ℕ) → line ≡ ended ++ 10 ∷ [] → ((front : List ℕ) → ended ≡ front ++ 13 ∷ [] → ⊥) → ended ≡ line_text line
ended_text line ended is none = sym (ap line_text is ∙ text_of_ended ended ∙ strip_no 13 ended none)

pub returned_text : (line ended text : List ℕ) → line ≡ ended ++ 10 ∷ [] → ended ≡ text ++ 13 ∷ [] → text ≡ line_text line
returned_text line ended text is was = sym (ap line_text is ∙ text_of_ended ended ∙ ap (strip_last 13) was ∙ strip_yes 13 text refl)

-- ## Bytes that are no text

pub good_bytes : (bytes : List ℕ) → IsUtf8 bytes → has_bad_byte bytes ≡ false
good_bytes bytes good = ap not (is_utf8-from_IsUtf8 bytes good)

bad_if : (bytes : List ℕ) (b : Bool) → is_utf8 bytes ≡ b → (IsUtf8 bytes → ⊥) → not b ≡ true
bad_if bytes true e none = absurd (none (IsUtf8-from_is_utf8 bytes e))
bad_if bytes false e none = refl

pub bad_bytes : (bytes : List ℕ) → (IsUtf8 bytes → ⊥) → has_bad_byte bytes ≡ true
bad_bytes bytes none = bad_if bytes (is_utf8 bytes) refl none

-- ## Blocks

take_next : {X : Type 0} (i : ℕ) (xs : List X) (y : X) (ys : List X) → drop i xs ≡ y ∷ ys → (take (suc i) xs ≡ take i xs ++ y ∷ []) × (drop (suc i) xs ≡ ys)
take_next zero [] y ys e = absurd (cc)
take_next zero (x ∷ xs) y ys e = (cc, cc)
take_next (suc i) [] y ys e = absurd (cc)
take_next (suc i) (x ∷ xs) y ys e = let t = take_next i xs y ys e in (ap (λ zs. x ∷ zs) t.0, t.1)

concat_push : (lines : List (List ℕ)) (line : List ℕ) → concat (lines ++ line ∷ []) ≡ concat lines ++ line
concat_push [] line = sym (append_none line)
concat_push (l ∷ ls) line = rw (concat_push ls line) (sym (append_assoc l (concat ls) line))

pub passed_none : (bytes : List ℕ) → Passed bytes bytes 0
passed_none bytes = record { front = refl; lines = refl; few = omega arith; within = omega arith }

pub passed_more : (bytes rest line more : List ℕ) (i : ℕ) → Passed bytes rest i → whole_lines rest ≡ line ∷ whole_lines more → rest ≡ line ++ more → 0 < length line → Passed bytes more (i + 1)
passed_more bytes rest line more i p e is some =
    let t = take_next i (whole_lines bytes) line (whole_lines more) (p.lines ∙ e) in
    let long : length rest ≡ length line + length more = ap length is ∙ length-append line more in
    let left : length (drop i (whole_lines bytes)) ≡ suc (length (whole_lines more)) = ap length (p.lines ∙ e) in
    record {
      front = p.front ∙ ap (λ ys. concat (take i (whole_lines bytes)) ++ ys) is ∙ rw (add-one, t.0, concat_push (take i (whole_lines bytes)) line) (sym (append_assoc (concat (take i (whole_lines bytes))) line more));
      lines = rw add-one t.1;
      few = omega (arith, p.few, long, some);
      within = omega (arith, p.within, left, length-drop i (whole_lines bytes));
    }

pub passed_all : (bytes rest : List ℕ) (count : ℕ) → Passed bytes rest count
    → (nat_lt (length (whole_lines bytes)) count ≡ false) × (concat (take count (whole_lines bytes)) ≡ take (length bytes - length rest) bytes) × (drop count (whole_lines bytes) ≡ whole_lines (drop (length bytes - length rest) bytes))
    × (length bytes ≡ length (take (length bytes - length rest) bytes) + length (drop (length bytes - length rest) bytes)) × (count ≤ length (take (length bytes - length rest) bytes))
passed_all bytes rest count p =
    let front : List ℕ = concat (take count (whole_lines bytes)) in
    let sum : length bytes ≡ length front + length rest = ap length p.front ∙ length-append front rest in
    let long : length bytes - length rest ≡ length front = omega (arith, sum) in
    let taken : take (length bytes - length rest) bytes ≡ front = rw long (ap (λ ys. take (length front) ys) p.front ∙ take-append_seam front rest) in
    let left : drop (length bytes - length rest) bytes ≡ rest = rw long (ap (λ ys. drop (length front) ys) p.front ∙ drop-append_seam front rest) in (
      le-ltb (length (whole_lines bytes)) count p.within,
      sym taken,
      p.lines ∙ ap whole_lines (sym left),
      rw (taken, left) sum,
      rw taken (omega (arith, p.few, sum)),
    )

pub passed_few : (bytes rest : List ℕ) (i count : ℕ) → Passed bytes rest i → rest ≡ [] → i < count → nat_lt (length (whole_lines bytes)) count ≡ true
passed_few bytes rest i count p none below =
    let left : length (drop i (whole_lines bytes)) ≡ 0 = ap length (p.lines ∙ ap whole_lines none) in
    lt-ltb (length (whole_lines bytes)) count (omega (arith, left, length-drop i (whole_lines bytes), below))
