-- Paths in a list.
use Rattle.std.proofs.Common.{◌≡◌, ℕ, zero, suc, ◌+◌, ◌<◌, ◌≤◌, List, [], ◌∷◌, ◌++◌, length, take, drop, refl, sym, ◌∙◌, ap, arith, get_or, add-one, length-append}
use Rattle.std.specs.Prelude.{Option}
use denote.Hole.Carrier.{hidden}
use Rattle.od_asked.specs.Asked.{asked_path, asked_paths}
use Rattle.od_reach.specs.Code.{rows_of, rows_list, code_list, code_of, code_in_order, repeat_code}
use Rattle.od_matching.proofs.Matching.Built.{path_row_of}
use Rattle.od_pattern.specs.declared.path.Path as path
use Rattle.od_pattern.specs.declared.path.Path.{Path, Row_of-Path, end_of-Path, more_of-Path, items-the_row-Path, items_hidden-the_row-Path-0}
use Rattle.od_pattern.specs.declared.path.Path.TheBlock.{hidden-the_row-Path-1}

rows_row : (n : _) (row : Row_of-Path n) → length (asked_paths row) ≡ rows_list (items-the_row-Path n row)
unfolding asked_paths
rows_row n end_of-Path = refl
rows_row n (more_of-Path p rest) = length-append (asked_path p) (asked_paths rest) ∙ ap (λ z. rows_of p + z) (rows_row _ rest)

code_row : (m : ℕ) (n : _) (row : Row_of-Path n) → code_in_order m row ≡ code_list m (items-the_row-Path n row)
unfolding code_in_order
code_row m n end_of-Path = refl
code_row m n (more_of-Path p rest) = ap (λ z. code_of m p ++ z) (code_row (m + rows_of p) _ rest)

-- how many rows a path asks for, from its parts
pub rows_seq : (ps : List Path) → rows_of (path.Seq ps) ≡ rows_list ps
unfolding asked_path
rows_seq ps = let row = path_row_of (path.Seq ps) in rows_row row.0 row.1 ∙ ap rows_list (items_hidden-the_row-Path-0 ps)

pub rows_alt : (ps : List Path) → rows_of (path.Alt ps) ≡ rows_list ps
unfolding asked_path
rows_alt ps = let row = path_row_of (path.Seq ps) in rows_row row.0 row.1 ∙ ap rows_list (items_hidden-the_row-Path-0 ps)

pub rows_repeat : (p : Path) (least : ℕ) (most : Option ℕ) → rows_of (path.Repeat p least most) ≡ rows_of p
unfolding asked_path hidden hidden-the_row-Path-1
rows_repeat p least most = refl

-- the moves of a path, from its parts
pub code_seq : (m : ℕ) (ps : List Path) → code_of m (path.Seq ps) ≡ code_list m ps
unfolding code_of
code_seq m ps = let row = path_row_of (path.Seq ps) in code_row m row.0 row.1 ∙ ap (code_list m) (items_hidden-the_row-Path-0 ps)

pub code_repeat : (m : ℕ) (p : Path) (least : ℕ) (most : Option ℕ) → code_of m (path.Repeat p least most) ≡ repeat_code (code_of m p) least most
unfolding code_of hidden hidden-the_row-Path-1
code_repeat m p least most = refl

-- one path more of a list
rows_next : (ps : List Path) (i : ℕ) (p : Path) → i < length ps → p ≡ get_or ps i p → rows_list (take (suc i) ps) ≡ rows_list (take i ps) + rows_of p
rows_next [] i p h e = absurd (omega arith)
rows_next (q ∷ ps) zero p h e = let r : rows_of p ≡ rows_of q = ap rows_of e in omega arith
rows_next (q ∷ ps) (suc i) p h e = let r : rows_list (take (suc i) ps) ≡ rows_list (take i ps) + rows_of p = rows_next ps i p (omega arith) e in omega arith

pub rows_take : (ps : List Path) (i : ℕ) (p : Path) → i < length ps → p ≡ get_or ps i p → rows_list (take (i + 1) ps) ≡ rows_list (take i ps) + rows_of p
rows_take ps i p h e = rw add-one (rows_next ps i p h e)

code_drop_next : (n : ℕ) (ps : List Path) (i : ℕ) (p : Path) → i < length ps → p ≡ get_or ps i p → code_list n (drop i ps) ≡ code_of n p ++ code_list (n + rows_of p) (drop (suc i) ps)
code_drop_next n [] i p h e = absurd (omega arith)
code_drop_next n (q ∷ ps) zero p h e = ap (λ z. code_of n z ++ code_list (n + rows_of z) ps) (sym e)
code_drop_next n (q ∷ ps) (suc i) p h e = code_drop_next n ps i p (omega arith) e

pub code_drop : (n : ℕ) (ps : List Path) (i : ℕ) (p : Path) → i < length ps → p ≡ get_or ps i p → code_list n (drop i ps) ≡ code_of n p ++ code_list (n + rows_of p) (drop (i + 1) ps)
code_drop n ps i p h e = rw add-one (code_drop_next n ps i p h e)
