-- Sizes that are counted to a limit.
use Rattle.std.proofs.Common.{◌≡◌, ℕ, zero, suc, ◌+◌, ◌*◌, ◌<◌, ◌≤◌, Bool, true, false, nat_lt, if◌then◌else◌, List, [], ◌∷◌, ◌++◌, Option, Some, None, refl, sym, ◌∙◌, ap, ap₂, ◌⊎◌, inl, inr, arith}
use Rattle.std.proofs.lemmas.Bool.{lt-ltb, ltb-true, le-ltb, ltb-false}
use denote.Hole.Carrier.{hidden}
use mathlib.Core.Former.{Count}
use Rattle.od_language.specs.declared.limits.TheConstants.{PATTERN_SIZE}
use Rattle.od_pattern.specs.declared.path.Path.{Path, Row_of-Path, end_of-Path, more_of-Path, items-the_row-Path, items_hidden-the_row-Path-0}
use Rattle.od_pattern.specs.declared.path.Path.TheBlock.{hidden-the_row-Path-1}
use Rattle.od_pattern.specs.declared.path.Path as path
use Rattle.od_path.specs.Machine.{sequence_size, alternation_size}
use Rattle.od_syntax.specs.Sizes.{path_size, path_order_size, path_choice_size, repeat_size, counted}

pub counted_low : (n : ℕ) → n ≤ PATTERN_SIZE → counted n ≡ n
counted_low n h = ap (λ (b : Bool). if b then suc PATTERN_SIZE else n) (le-ltb PATTERN_SIZE n h)

pub counted_high : (n : ℕ) → PATTERN_SIZE < n → counted n ≡ suc PATTERN_SIZE
counted_high n h = ap (λ (b : Bool). if b then suc PATTERN_SIZE else n) (lt-ltb PATTERN_SIZE n h)

sides_by : (m n : ℕ) (b : Bool) → nat_lt n m ≡ b → (m ≤ n) ⊎ (n < m)
sides_by m n true e = inr (ltb-true n m e)
sides_by m n false e = inl (ltb-false n m e)

sides : (m n : ℕ) → (m ≤ n) ⊎ (n < m)
sides m n = sides_by m n (nat_lt n m) refl

most_by : (n : ℕ) → (n ≤ PATTERN_SIZE) ⊎ (PATTERN_SIZE < n) → counted n ≤ suc PATTERN_SIZE
most_by n (inl h) = let e = counted_low n h in omega (arith, h, e)
most_by n (inr h) = let e = counted_high n h in omega (arith, h, e)

-- a size as it is counted is at most one above the limit
pub counted_small : (s n : ℕ) → s ≡ counted n → s ≤ suc PATTERN_SIZE
counted_small s n e = let m = most_by n (sides n PATTERN_SIZE) in omega (arith, e, m)

same_above : (m n : ℕ) → PATTERN_SIZE < m → PATTERN_SIZE < n → counted m ≡ counted n
same_above m n h g = counted_high m h ∙ sym (counted_high n g)

sum_by : (a b : ℕ) → (a ≤ PATTERN_SIZE) ⊎ (PATTERN_SIZE < a) → (b ≤ PATTERN_SIZE) ⊎ (PATTERN_SIZE < b) → counted (counted a + counted b) ≡ counted (a + b)
sum_by a b (inl h) (inl g) = ap₂ (λ x y. counted (x + y)) (counted_low a h) (counted_low b g)
sum_by a b (inl h) (inr g) = let e = counted_high b g in same_above (counted a + counted b) (a + b) (omega (arith, e)) (omega (arith, g))
sum_by a b (inr h) g = let e = counted_high a h in same_above (counted a + counted b) (a + b) (omega (arith, e)) (omega (arith, h))

pub counted_sum : (a b : ℕ) → counted (counted a + counted b) ≡ counted (a + b)
counted_sum a b = sum_by a b (sides a PATTERN_SIZE) (sides b PATTERN_SIZE)

next_by : (a b : ℕ) → (a ≤ PATTERN_SIZE) ⊎ (PATTERN_SIZE < a) → (b ≤ PATTERN_SIZE) ⊎ (PATTERN_SIZE < b) → counted (counted a + suc (counted b)) ≡ counted (a + suc b)
next_by a b (inl h) (inl g) = ap₂ (λ x y. counted (x + suc y)) (counted_low a h) (counted_low b g)
next_by a b (inl h) (inr g) = let e = counted_high b g in same_above (counted a + suc (counted b)) (a + suc b) (omega (arith, e)) (omega (arith, g))
next_by a b (inr h) g = let e = counted_high a h in same_above (counted a + suc (counted b)) (a + suc b) (omega (arith, e)) (omega (arith, h))

counted_next : (a b : ℕ) → counted (counted a + suc (counted b)) ≡ counted (a + suc b)
counted_next a b = next_by a b (sides a PATTERN_SIZE) (sides b PATTERN_SIZE)

times_above : (t n : ℕ) → PATTERN_SIZE < n → PATTERN_SIZE < suc t * suc n
times_above t n h = omega (arith, h)

times_by : (t n : ℕ) → (n ≤ PATTERN_SIZE) ⊎ (PATTERN_SIZE < n) → counted (t * suc (counted n)) ≡ counted (t * suc n)
times_by t n (inl h) = ap (λ x. counted (t * suc x)) (counted_low n h)
times_by zero n (inr h) = let e : 0 * suc (counted n) ≡ 0 * suc n = omega arith in ap counted e
times_by (suc t) n (inr h) = let e = counted_high n h in same_above (suc t * suc (counted n)) (suc t * suc n) (times_above t (counted n) (omega (arith, e))) (times_above t n h)

counted_times : (t n : ℕ) → counted (t * suc (counted n)) ≡ counted (t * suc n)
counted_times t n = times_by t n (sides n PATTERN_SIZE)

-- the size of a repeat is counted from the counted one of its body
pub counted_repeat : (least : ℕ) (most : Option ℕ) (n : ℕ) → counted (repeat_size least most (counted n)) ≡ counted (repeat_size least most n)
counted_repeat least None n = counted_times (suc least) n
counted_repeat least (Some most) n = counted_times most n

size_repeat : (p : Path) (least : ℕ) (most : Option ℕ) → path_size (path.Repeat p least most) ≡ repeat_size least most (path_size p)
unfolding hidden hidden-the_row-Path-1
size_repeat p least most = refl

pub repeat_sized : (p : Path) (least : ℕ) (most : Option ℕ) (s : ℕ) → s ≡ counted (path_size p) → counted (repeat_size least most s) ≡ counted (path_size (path.Repeat p least most))
repeat_sized p least most s e =
    ap (λ z. counted (repeat_size least most z)) e ∙ counted_repeat least most (path_size p) ∙ ap counted (sym (size_repeat p least most))

-- the sum of the sizes, and the same with one more for each
abbrev order_sizes : List Path → ℕ
order_sizes [] = 0
order_sizes (p ∷ ps) = path_size p + order_sizes ps

abbrev choice_sizes : List Path → ℕ
choice_sizes [] = 0
choice_sizes (p ∷ ps) = suc (path_size p) + choice_sizes ps

abbrev row_of : Path → (n : Count) × Row_of-Path n
row_of (path.Seq' _ row) = (_, row)
row_of _ = (_, end_of-Path)

order-row : (n : _) (row : Row_of-Path n) → path_order_size row ≡ order_sizes (items-the_row-Path n row)
order-row n end_of-Path = refl
order-row n (more_of-Path p rest) = ap (λ z. path_size p + z) (order-row _ rest)

choice-row : (n : _) (row : Row_of-Path n) → path_choice_size row ≡ choice_sizes (items-the_row-Path n row)
choice-row n end_of-Path = refl
choice-row n (more_of-Path p rest) = ap (λ z. suc (path_size p) + z) (choice-row _ rest)

size_seq : (ps : List Path) → path_size (path.Seq ps) ≡ order_sizes ps
size_seq ps = let row = row_of (path.Seq ps) in order-row row.0 row.1 ∙ ap order_sizes (items_hidden-the_row-Path-0 ps)

size_alt : (ps : List Path) → path_size (path.Alt ps) ≡ choice_sizes ps
size_alt ps = let row = row_of (path.Seq ps) in choice-row row.0 row.1 ∙ ap choice_sizes (items_hidden-the_row-Path-0 ps)

order_snoc : (ps : List Path) (p : Path) → order_sizes (ps ++ p ∷ []) ≡ order_sizes ps + path_size p
order_snoc [] p = omega arith
order_snoc (q ∷ ps) p = let e = order_snoc ps p in omega (arith, e)

choice_snoc : (ps : List Path) (p : Path) → choice_sizes (ps ++ p ∷ []) ≡ choice_sizes ps + suc (path_size p)
choice_snoc [] p = omega arith
choice_snoc (q ∷ ps) p = let e = choice_snoc ps p in omega (arith, e)

sequence_is : (ps : List Path) → sequence_size ps ≡ order_sizes ps
unfolding sequence_size
sequence_is ps = size_seq ps

alternation_is : (ps : List Path) → alternation_size ps ≡ choice_sizes ps
unfolding alternation_size
alternation_is ps = size_alt ps

-- parts with one more
pub seq_more : (ps : List Path) (p : Path) (s t : ℕ) → s ≡ counted (sequence_size ps) → t ≡ counted (path_size p) →
    counted (s + t) ≡ counted (sequence_size (ps ++ p ∷ []))
seq_more ps p s t e h =
    let z : sequence_size (ps ++ p ∷ []) ≡ sequence_size ps + path_size p = sequence_is (ps ++ p ∷ []) ∙ order_snoc ps p ∙ ap (λ z. z + path_size p) (sym (sequence_is ps)) in
    ap₂ (λ x y. counted (x + y)) e h ∙ counted_sum (sequence_size ps) (path_size p) ∙ ap counted (sym z)

-- two parts
pub seq_two : (p q : Path) (s t : ℕ) → s ≡ counted (path_size p) → t ≡ counted (path_size q) → counted (s + t) ≡ counted (sequence_size (p ∷ q ∷ []))
seq_two p q s t e h =
    let one : sequence_size (p ∷ []) ≡ path_size p = let i = sequence_is (p ∷ []) in omega (arith, i) in
    seq_more (p ∷ []) q s t (e ∙ ap counted (sym one)) h

pub seq_done : (ps : List Path) (s : ℕ) → s ≡ counted (sequence_size ps) → s ≡ counted (path_size (path.Seq ps))
seq_done ps s e = e ∙ ap counted (sequence_is ps ∙ sym (size_seq ps))

-- choices with one more
pub alt_more : (ps : List Path) (p : Path) (s t : ℕ) → s ≡ counted (alternation_size ps) → t ≡ counted (path_size p) →
    counted (s + suc t) ≡ counted (alternation_size (ps ++ p ∷ []))
alt_more ps p s t e h =
    let z : alternation_size (ps ++ p ∷ []) ≡ alternation_size ps + suc (path_size p) = alternation_is (ps ++ p ∷ []) ∙ choice_snoc ps p ∙ ap (λ z. z + suc (path_size p)) (sym (alternation_is ps)) in
    ap₂ (λ x y. counted (x + suc y)) e h ∙ counted_next (alternation_size ps) (path_size p) ∙ ap counted (sym z)

-- two choices
pub alt_two : (p q : Path) (s t : ℕ) → s ≡ counted (path_size p) → t ≡ counted (path_size q) → counted (counted (0 + suc s) + suc t) ≡ counted (alternation_size (p ∷ q ∷ []))
alt_two p q s t e h =
    let none : alternation_size [] ≡ 0 = alternation_is [] in
    let first : 0 ≡ counted (alternation_size []) = ap counted (sym none) in
    alt_more (p ∷ []) q (counted (0 + suc s)) t (alt_more [] p 0 s first e) h

pub alt_done : (ps : List Path) (s : ℕ) → s ≡ counted (alternation_size ps) → s ≡ counted (path_size (path.Alt ps))
alt_done ps s e = e ∙ ap counted (alternation_is ps ∙ sym (size_alt ps))
