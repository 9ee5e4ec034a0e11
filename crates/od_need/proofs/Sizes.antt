-- How many needs of several parts stand in needs that are built from their parts.
use Rattle.std.proofs.Common.{◌≡◌, ◌≤◌, ◌<◌, ◌+◌, ℕ, zero, suc, List, [], ◌∷◌, ◌++◌, length, get_or, arith, refl, ap, ◌∙◌, inl, inr}
use Rattle.std.specs.Prelude.{◌⊎◌, Option, Some, None, slice_get}
use mathlib.Core.Former.{Count}
use Rattle.od_need.specs.Sizes.{need_size, needs_size, sizes}
use Rattle.od_need.specs.declared.need.Need as need
use Rattle.od_need.specs.declared.need.Need.{Need, Row_of-Need, end_of-Need, more_of-Need, items-the_row-Need, items_hidden-the_row-Need-0}

-- the row of some needs
abbrev row_of : Need → (n : Count) × Row_of-Need n
row_of (need.And' _ row) = (_, row)
row_of _ = (_, end_of-Need)

size-row : (n : _) (row : Row_of-Need n) → needs_size row ≡ sizes (items-the_row-Need n row)
unfolding needs_size
size-row n end_of-Need = refl
size-row n (more_of-Need x rest) = ap (λ m. need_size x + m) (size-row _ rest)

pub size_and : (ns : List Need) → need_size (need.And ns) ≡ suc (sizes ns)
unfolding need_size
size_and ns = let row = row_of (need.And ns) in ap suc (size-row row.0 row.1 ∙ ap sizes (items_hidden-the_row-Need-0 ns))

pub size_or : (ns : List Need) → need_size (need.Or ns) ≡ suc (sizes ns)
unfolding need_size
size_or ns = let row = row_of (need.And ns) in ap suc (size-row row.0 row.1 ∙ ap sizes (items_hidden-the_row-Need-0 ns))

pub size_at : (ns : List Need) (k : ℕ) (d : Need) → k < length ns → need_size (get_or ns k d) ≤ sizes ns
size_at [] k d lt = absurd (omega (arith, lt))
size_at (n ∷ ns) zero d lt = omega arith
size_at (n ∷ ns) (suc k) d lt = omega (arith, size_at ns k d (omega (arith, lt)))

pub size_found : (ns : List Need) (k : ℕ) (n : Need) → slice_get ns k ≡ Some n → need_size n ≤ sizes ns
size_found [] k n e = absurd (let q : ◌≡◌ {A = Option Need} None (Some n) = e in cc)
size_found (m ∷ ns) zero n e =
    let same : m ≡ n = (let q : Some m ≡ Some n = e in cc) in
    let sizes_same : need_size m ≡ need_size n = ap need_size same in omega (arith, sizes_same)
size_found (m ∷ ns) (suc k) n e = omega (arith, size_found ns k n e)

pub sizes_more : (ns : List Need) (n : Need) → sizes (ns ++ n ∷ []) ≡ sizes ns + need_size n
sizes_more [] n = omega arith
sizes_more (m ∷ ns) n = omega (arith, sizes_more ns n)

-- a need of several parts
pub several : (n : Need) (ns : List Need) → (n ≡ need.And ns) ⊎ (n ≡ need.Or ns) → need_size n ≡ suc (sizes ns)
several n ns (inl e) = ap need_size e ∙ size_and ns
several n ns (inr e) = ap need_size e ∙ size_or ns

-- what stands in front stays there
pub same_front : (xs ys : List Need) (x y : Need) → ys ≡ xs ++ x ∷ [] → slice_get (ys ++ y ∷ []) 0 ≡ slice_get (xs ++ x ∷ []) 0
same_front [] ys x y e = ap (λ (zs : List Need). slice_get (zs ++ y ∷ []) 0) e
same_front (z ∷ xs) ys x y e = ap (λ (zs : List Need). slice_get (zs ++ y ∷ []) 0) e
