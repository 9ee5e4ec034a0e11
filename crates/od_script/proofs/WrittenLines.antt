-- Written lines and blocks: where they end, and what they say.
use Rattle.std.proofs.Common.{◌≡◌, ℕ, ◌+◌, ◌<◌, ◌≤◌, List, [], ◌∷◌, ◌++◌, length, take, drop, Bool, true, false, refl, sym, ap, ◌∙◌, subst, arith, append_assoc, append-nil, length-append}
use Rattle.std.specs.Prelude.{◌==◌, ◌&&◌, not, if◌then◌else◌}
use Rattle.std.specs.Io.BufRead.{ends_with_byte}
use Rattle.std.specs.List.{concat, list_all}
use Rattle.std.specs.Str.{IsUtf8}
use Rattle.std.proofs.Math.Seq.{take-append_seam, drop-append_seam}
use Rattle.std.proofs.lemmas.Bool.{eqb-true}
use Rattle.std.proofs.lemmas.List.Folds.{list_all-append}
use Rattle.od_order.specs.Lines.{onto_first_line, whole_lines, line_text}
use Rattle.od_script.specs.Written.{line_count}
use Rattle.od_script.proofs.Blocks.{split_last, last_byte, text_of_ended}

-- ## Tests

pub both : (a b : Bool) → (a && b) ≡ true → (a ≡ true) × (b ≡ true)
both true b e = (refl, e)
both false b e = absurd (cc)

pub not_true : (b : Bool) → not b ≡ true → b ≡ false
not_true true e = absurd (cc)
not_true false e = refl

-- that c is not among the bytes
abbrev pub Avoids : ℕ → List ℕ → Type 0
Avoids c bytes = list_all (λ b. not (b == c)) bytes ≡ true

-- bytes without c do not end with it
avoids_last : (c y : ℕ) (front : List ℕ) → Avoids c (front ++ y ∷ []) → (y == c) ≡ false
avoids_last c y front h =
    let t = both (list_all (λ b. not (b == c)) front) (not (y == c) && true) (sym (list_all-append (λ b. not (b == c)) front (y ∷ [])) ∙ h) in
    not_true (y == c) ((both (not (y == c)) true t.1).0)

pub unended : (c : ℕ) (bytes : List ℕ) → Avoids c bytes → ends_with_byte c bytes ≡ false
unended c [] h = refl
unended c (x ∷ xs) h =
    let s = split_last x xs in
    ap (ends_with_byte c) s.2 ∙ last_byte c s.1 s.0 ∙ avoids_last c s.1 s.0 (subst (Avoids c) s.2 h)

-- the last byte is that of what stands last
pub ends_after : (c : ℕ) (front : List ℕ) (y : ℕ) (ys : List ℕ) → ends_with_byte c (front ++ y ∷ ys) ≡ ends_with_byte c (y ∷ ys)
ends_after c front y ys =
    let s = split_last y ys in
    ap (λ bytes. ends_with_byte c (front ++ bytes)) s.2
    ∙ ap (ends_with_byte c) (sym (append_assoc front s.0 (s.1 ∷ [])))
    ∙ last_byte c s.1 (front ++ s.0)
    ∙ sym (ap (ends_with_byte c) s.2 ∙ last_byte c s.1 s.0)

-- ## Lines

-- a text that is a line
pub record IsLine (text : List ℕ) : Type 0 where
  pub one : Avoids 10 text
  pub unreturned : ends_with_byte 13 text ≡ false
  pub good : IsUtf8 text

pub cut_line : (text rest : List ℕ) → Avoids 10 text → whole_lines (text ++ 10 ∷ rest) ≡ (text ++ 10 ∷ []) ∷ whole_lines rest
cut_line [] rest h = refl
cut_line (b ∷ text) rest h =
    let t = both (not (b == 10)) (list_all (λ x. not (x == 10)) text) h in
    rw (not_true (b == 10) t.0) (ap (onto_first_line b) (cut_line text rest t.1))

pub said_text : (text : List ℕ) → IsLine text → line_text (text ++ 10 ∷ []) ≡ text
said_text text h = text_of_ended text ∙ (rw h.unreturned refl)

-- ## Blocks

if_some : (t : Bool) (b : ℕ) (lines : List (List ℕ)) → 0 < length (if t then (b ∷ []) ∷ lines else onto_first_line b lines)
if_some true b lines = omega arith
if_some false b [] = omega arith
if_some false b (line ∷ lines) = omega arith

some_lines : (front : List ℕ) → 0 < length (whole_lines (front ++ 10 ∷ []))
some_lines [] = omega arith
some_lines (b ∷ front) = if_some (b == 10) b (whole_lines (front ++ 10 ∷ []))

if_before : (t : Bool) (b : ℕ) (all lines more : List (List ℕ)) → all ≡ lines ++ more → 0 < length lines
    → (if t then (b ∷ []) ∷ all else onto_first_line b all) ≡ (if t then (b ∷ []) ∷ lines else onto_first_line b lines) ++ more
if_before true b all lines more e some = ap (λ l. (b ∷ []) ∷ l) e
if_before false b all [] more e some = absurd (omega arith)
if_before false b all (line ∷ lines) more e some = ap (onto_first_line b) e

ended_lines : (front rest : List ℕ) → whole_lines ((front ++ 10 ∷ []) ++ rest) ≡ whole_lines (front ++ 10 ∷ []) ++ whole_lines rest
ended_lines [] rest = refl
ended_lines (b ∷ front) rest = if_before (b == 10) b _ _ _ (ended_lines front rest) (some_lines front)

-- bytes end with a line feed, or nothing stands behind them
abbrev pub EndsBefore : List ℕ → List ℕ → Type 0
EndsBefore bytes [] = Unit {0}
EndsBefore bytes (b ∷ rest) = ends_with_byte 10 bytes ≡ true

pub ends_before : (bytes rest : List ℕ) → ends_with_byte 10 bytes ≡ true → EndsBefore bytes rest
ends_before bytes [] h = tt
ends_before bytes (b ∷ rest) h = h

-- a line's block stands before the lines that follow it
block_before : (line block rest : List ℕ) → ends_with_byte 10 (line ++ block) ≡ true → whole_lines (block ++ rest) ≡ whole_lines block ++ whole_lines rest
block_before line [] rest h = refl
block_before line (x ∷ xs) rest h =
    let s = split_last x xs in
    let last : s.1 ≡ 10 = eqb-true s.1 10 (sym (ap (ends_with_byte 10) s.2 ∙ last_byte 10 s.1 s.0) ∙ sym (ends_after 10 line x xs) ∙ h) in
    let is : x ∷ xs ≡ s.0 ++ 10 ∷ [] = s.2 ∙ ap (λ y. s.0 ++ y ∷ []) last in
    subst (λ bytes. whole_lines (bytes ++ rest) ≡ whole_lines bytes ++ whole_lines rest) (sym is) (ended_lines s.0 rest)

lines_before : (line block rest : List ℕ) → EndsBefore (line ++ block) rest → whole_lines (block ++ rest) ≡ whole_lines block ++ whole_lines rest
lines_before line block [] h = ap whole_lines (append-nil block) ∙ sym (append-nil (whole_lines block))
lines_before line block (b ∷ rest) h = block_before line block (b ∷ rest) h

if_joined : (t : Bool) (b : ℕ) (lines : List (List ℕ)) → concat (if t then (b ∷ []) ∷ lines else onto_first_line b lines) ≡ b ∷ concat lines
if_joined true b lines = refl
if_joined false b [] = refl
if_joined false b (line ∷ lines) = refl

-- the lines of bytes are all of these
pub joined_lines : (bytes : List ℕ) → concat (whole_lines bytes) ≡ bytes
joined_lines [] = refl
joined_lines (b ∷ bytes) = if_joined (b == 10) b (whole_lines bytes) ∙ ap (λ l. b ∷ l) (joined_lines bytes)

if_few : (t : Bool) (b : ℕ) (lines : List (List ℕ)) → length (if t then (b ∷ []) ∷ lines else onto_first_line b lines) ≤ length lines + 1
if_few true b lines = omega arith
if_few false b [] = omega arith
if_few false b (line ∷ lines) = omega arith

-- each has a byte
pub few_lines : (bytes : List ℕ) → line_count bytes ≤ length bytes
few_lines [] = omega arith
few_lines (b ∷ bytes) = let h : line_count bytes ≤ length bytes = few_lines bytes in omega (arith, h, if_few (b == 10) b (whole_lines bytes))

-- so many lines are left, they are the block, and the rest is behind them
pub block_left : (line block rest : List ℕ) → EndsBefore (line ++ block) rest
    → (line_count block ≤ length (whole_lines (block ++ rest))) × (concat (take (line_count block) (whole_lines (block ++ rest))) ≡ block) × (drop (line_count block) (whole_lines (block ++ rest)) ≡ whole_lines rest)
block_left line block rest h =
    let is = lines_before line block rest h in (
      omega (arith, ap length is, length-append (whole_lines block) (whole_lines rest)),
      ap (λ lines. concat (take (line_count block) lines)) is ∙ ap concat (take-append_seam (whole_lines block) (whole_lines rest)) ∙ joined_lines block,
      ap (drop (line_count block)) is ∙ drop-append_seam (whole_lines block) (whole_lines rest),
    )
