-- Sizes that are counted to a limit.
use Rattle.std.proofs.Common.{◌≡◌, ℕ, zero, suc, ◌+◌, ◌*◌, ◌<◌, ◌≤◌, Bool, true, false, nat_lt, if◌then◌else◌, List, [], ◌∷◌, ◌++◌, Option, Some, None, refl, sym, ◌∙◌, ap, ap₂, ◌⊎◌, inl, inr, arith}
use Rattle.std.proofs.lemmas.Bool.{lt-ltb, ltb-true, le-ltb, ltb-false}
use denote.Hole.Carrier.{hidden}
use mathlib.Core.Former.{Count}
use Rattle.od_pattern.specs.declared.pattern.Surface.{Surface, Row_of-Surface, end_of-Surface, more_of-Surface, items-the_row-Surface, items_hidden-the_row-Surface-0}
use Rattle.od_pattern.specs.declared.pattern.Surface.TheBlock.{hidden-the_row-Surface-1}
use Rattle.od_pattern.specs.declared.pattern.Surface as surface
use Rattle.od_language.specs.declared.limits.TheConstants.{PATTERN_SIZE}
use Rattle.od_syntax.specs.Sizes.{surface_size, order_size, choice_size, repeat_size, counted}
use Rattle.od_syntax.specs.SurfaceMachine.{in_order, repeat}

counted_low : (n : ℕ) → n ≤ PATTERN_SIZE → counted n ≡ n
counted_low n h = ap (λ b. if b then suc PATTERN_SIZE else n) (le-ltb PATTERN_SIZE n h)

counted_high : (n : ℕ) → PATTERN_SIZE < n → counted n ≡ suc PATTERN_SIZE
counted_high n h = ap (λ b. if b then suc PATTERN_SIZE else n) (lt-ltb PATTERN_SIZE n h)

-- a size is small or not
abbrev Sides : ℕ → Type 0
Sides n = (n ≤ PATTERN_SIZE) ⊎ (PATTERN_SIZE < n)

sides_by : (n : ℕ) (b : Bool) → nat_lt PATTERN_SIZE n ≡ b → Sides n
sides_by n true e = inr (ltb-true PATTERN_SIZE n e)
sides_by n false e = inl (ltb-false PATTERN_SIZE n e)

sides : (n : ℕ) → Sides n
sides n = sides_by n (nat_lt PATTERN_SIZE n) refl

most_by : (n : ℕ) → Sides n → counted n ≤ suc PATTERN_SIZE
most_by n (inl h) = let e = counted_low n h in omega (arith, h, e)
most_by n (inr h) = let e = counted_high n h in omega (arith, h, e)

pub counted_most : (n : ℕ) → counted n ≤ suc PATTERN_SIZE
counted_most n = most_by n (sides n)

same_above : (m n : ℕ) → PATTERN_SIZE < m → PATTERN_SIZE < n → counted m ≡ counted n
same_above m n h g = counted_high m h ∙ sym (counted_high n g)

sum_by : (a b : ℕ) → Sides a → Sides b → counted (counted a + counted b) ≡ counted (a + b)
sum_by a b (inl h) (inl g) = ap₂ (λ x y. counted (x + y)) (counted_low a h) (counted_low b g)
sum_by a b (inl h) (inr g) = let e = counted_high b g in same_above (counted a + counted b) (a + b) (omega (arith, e)) (omega (arith, g))
sum_by a b (inr h) g = let e = counted_high a h in same_above (counted a + counted b) (a + b) (omega (arith, e)) (omega (arith, h))

pub counted_sum : (a b : ℕ) → counted (counted a + counted b) ≡ counted (a + b)
counted_sum a b = sum_by a b (sides a) (sides b)

more_by : (s n : ℕ) → Sides s → Sides n → counted (counted s + suc (counted n)) ≡ counted (s + suc n)
more_by s n (inl h) (inl g) = ap₂ (λ x y. counted (x + suc y)) (counted_low s h) (counted_low n g)
more_by s n (inl h) (inr g) = let e = counted_high n g in same_above (counted s + suc (counted n)) (s + suc n) (omega (arith, e)) (omega (arith, g))
more_by s n (inr h) g = let e = counted_high s h in same_above (counted s + suc (counted n)) (s + suc n) (omega (arith, e)) (omega (arith, h))

times_above : (t n : ℕ) → PATTERN_SIZE < n → PATTERN_SIZE < suc t * suc n
times_above t n h = omega (arith, h)

times_by : (t n : ℕ) → Sides n → counted (t * suc (counted n)) ≡ counted (t * suc n)
times_by t n (inl h) = ap (λ x. counted (t * suc x)) (counted_low n h)
times_by zero n (inr h) = let e : 0 * suc (counted n) ≡ 0 * suc n = omega arith in ap counted e
times_by (suc t) n (inr h) = let e = counted_high n h in same_above (suc t * suc (counted n)) (suc t * suc n) (times_above t (counted n) (omega (arith, e))) (times_above t n h)

pub counted_repeat : (least : ℕ) (most : Option ℕ) (n : ℕ) → counted (repeat_size least most (counted n)) ≡ counted (repeat_size least most n)
counted_repeat least None n = times_by (suc least) n (sides n)
counted_repeat least (Some most) n = times_by most n (sides n)

pub size_repeat : (p : Surface) (least : ℕ) (most : Option ℕ) (lazy : Bool) → surface_size (repeat p least most lazy) ≡ repeat_size least most (surface_size p)
unfolding hidden hidden-the_row-Surface-1
size_repeat p least most lazy = refl

capture_size : (name : List ℕ) (p : Surface) → surface_size (surface.Capture name p) ≡ 2 + surface_size p
unfolding hidden hidden-the_row-Surface-1
capture_size name p = refl

pub size_capture : (name : List ℕ) (p : Surface) → counted (2 + counted (surface_size p)) ≡ counted (surface_size (surface.Capture name p))
size_capture name p = counted_sum 2 (surface_size p) ∙ ap counted (sym (capture_size name p))

none_more : (n : ℕ) → n ≡ n + 0
none_more n = omega arith

-- the sum of the sizes
abbrev pub order_sizes : List Surface → ℕ
order_sizes [] = 0
order_sizes (p ∷ ps) = surface_size p + order_sizes ps

pub order_first : (p : Surface) → counted (order_sizes (p ∷ [])) ≡ counted (surface_size p)
order_first p = ap counted (sym (none_more (surface_size p)))

-- the same with one more for each
abbrev pub choice_sizes : List Surface → ℕ
choice_sizes [] = 0
choice_sizes (p ∷ ps) = suc (surface_size p) + choice_sizes ps

abbrev row_of : Surface → (n : Count) × Row_of-Surface n
row_of (surface.Seq' _ row) = (_, row)
row_of _ = (_, end_of-Surface)

order-row : (n : _) (row : Row_of-Surface n) → order_size row ≡ order_sizes (items-the_row-Surface n row)
order-row n end_of-Surface = refl
order-row n (more_of-Surface p rest) = ap (λ z. surface_size p + z) (order-row _ rest)

choice-row : (n : _) (row : Row_of-Surface n) → choice_size row ≡ choice_sizes (items-the_row-Surface n row)
choice-row n end_of-Surface = refl
choice-row n (more_of-Surface p rest) = ap (λ z. suc (surface_size p) + z) (choice-row _ rest)

size_seq : (ps : List Surface) → surface_size (surface.Seq ps) ≡ order_sizes ps
size_seq ps = let row = row_of (surface.Seq ps) in order-row row.0 row.1 ∙ ap order_sizes (items_hidden-the_row-Surface-0 ps)

size_alt : (ps : List Surface) → surface_size (surface.Alt ps) ≡ choice_sizes ps
size_alt ps = let row = row_of (surface.Seq ps) in choice-row row.0 row.1 ∙ ap choice_sizes (items_hidden-the_row-Surface-0 ps)

order_is : (ps : List Surface) → surface_size (in_order ps) ≡ order_sizes ps
order_is [] = size_seq []
order_is (p ∷ []) = none_more (surface_size p)
order_is (p ∷ q ∷ ps) = size_seq (p ∷ q ∷ ps)

-- parts have the sum of their sizes
pub order_size_is : (ps : List Surface) → counted (surface_size (in_order ps)) ≡ counted (order_sizes ps)
order_size_is ps = ap counted (order_is ps)

order_snoc : (ps : List Surface) (p : Surface) → order_sizes (ps ++ p ∷ []) ≡ order_sizes ps + surface_size p
order_snoc [] p = omega arith
order_snoc (q ∷ ps) p = let e = order_snoc ps p in omega (arith, e)

pub order_more : (ps : List Surface) (p : Surface) → counted (order_sizes (ps ++ p ∷ [])) ≡ counted (counted (order_sizes ps) + counted (surface_size p))
order_more ps p = ap counted (order_snoc ps p) ∙ sym (counted_sum (order_sizes ps) (surface_size p))

choice_snoc : (ps : List Surface) (p : Surface) → choice_sizes (ps ++ p ∷ []) ≡ choice_sizes ps + suc (surface_size p)
choice_snoc [] p = omega arith
choice_snoc (q ∷ ps) p = let e = choice_snoc ps p in omega (arith, e)

pub choice_more : (ps : List Surface) (p : Surface) → counted (choice_sizes (ps ++ p ∷ [])) ≡ counted (counted (choice_sizes ps) + suc (counted (surface_size p)))
choice_more ps p = ap counted (choice_snoc ps p) ∙ sym (more_by (choice_sizes ps) (surface_size p) (sides (choice_sizes ps)) (sides (surface_size p)))

pub choice_first : (p : Surface) → counted (choice_sizes (p ∷ [])) ≡ counted (0 + suc (counted (surface_size p)))
choice_first p = choice_more [] p

-- an alternation has the sum and the number of its choices
pub choice_size_is : (ps : List Surface) → counted (surface_size (surface.Alt ps)) ≡ counted (choice_sizes ps)
choice_size_is ps = ap counted (size_alt ps)

above_by : (n : ℕ) → Sides n → nat_lt PATTERN_SIZE (counted n) ≡ nat_lt PATTERN_SIZE n
above_by n (inl h) = ap (λ z. nat_lt PATTERN_SIZE z) (counted_low n h)
above_by n (inr h) = ap (λ z. nat_lt PATTERN_SIZE z) (counted_high n h) ∙ sym (lt-ltb PATTERN_SIZE n h)

-- whether a size is too big is seen on the counted one
pub above_counted : (n : ℕ) → nat_lt PATTERN_SIZE (counted n) ≡ nat_lt PATTERN_SIZE n
above_counted n = above_by n (sides n)
