-- The paths that the grammar gives can be written.
use Rattle.std.proofs.Common.{◌≡◌, ℕ, List, [], ◌∷◌, Option, refl, sym, subst}
use mathlib.Core.Former.{Count}
use denote.Hole.Carrier.{hidden}
use Rattle.od_pattern.specs.declared.path.Path as path
use Rattle.od_pattern.specs.declared.path.Path.{Path, Row_of-Path, end_of-Path, more_of-Path, items-the_row-Path, items_hidden-the_row-Path-0}
use Rattle.od_pattern.specs.declared.path.Path.TheBlock.{hidden-the_row-Path-1}
use Rattle.od_language.specs.declared.lexeme.LexKind.{LexKind}
use Rattle.od_syntax.specs.Parts.{one_or}
use Rattle.od_syntax.specs.Paths.{Step, along, against, any_along, any_against, PathAtom, step, filter, group, PathPart, once, repeated, PathParts, last, more, PathChoices, final, next, Paths, choice}
use Rattle.od_written.specs.Forms.{ConstraintsAreWritable}
use Rattle.od_written.specs.Paths.{AreSomePaths, IsWritablePath, AreWritablePaths, PathsAreWritable}

-- the paths of a list can be written
abbrev AllWritable : List Path → Type 0
AllWritable [] = Unit {0}
AllWritable (p ∷ ps) = IsWritablePath p × AllWritable ps

-- two or more
abbrev AreSome : List Path → Type 0
AreSome [] = ⊥
AreSome (p ∷ []) = ⊥
AreSome (p ∷ q ∷ ps) = Unit {0}

-- the row of a sequence or an alternation
abbrev row_of : Path → (n : Count) × Row_of-Path n
row_of (path.Seq' _ row) = (_, row)
row_of _ = (_, end_of-Path)

some_row : (n : Count) (row : Row_of-Path n) → AreSome (items-the_row-Path n row) → AreSomePaths row
some_row n end_of-Path h = absurd h
some_row n (more_of-Path p end_of-Path) h = absurd h
some_row n (more_of-Path p (more_of-Path q row)) h = tt

writable_row : (n : Count) (row : Row_of-Path n) → AllWritable (items-the_row-Path n row) → AreWritablePaths row
writable_row n end_of-Path w = tt
writable_row n (more_of-Path p row) w = (w.0, writable_row _ row w.1)

sequence : (ps : List Path) → AreSome ps → AllWritable ps → IsWritablePath (path.Seq ps)
sequence ps h w =
    let row = row_of (path.Seq ps) in
    let e = sym (items_hidden-the_row-Path-0 ps) in
    (some_row row.0 row.1 (subst AreSome e h), writable_row row.0 row.1 (subst AllWritable e w))

alternation : (ps : List Path) → AreSome ps → AllWritable ps → IsWritablePath (path.Alt ps)
alternation ps h w =
    let row = row_of (path.Seq ps) in
    let e = sym (items_hidden-the_row-Path-0 ps) in
    (some_row row.0 row.1 (subst AreSome e h), writable_row row.0 row.1 (subst AllWritable e w))

-- one part alone, or several
in_order : (p : Path) (ps : List Path) → AllWritable (p ∷ ps) → IsWritablePath (one_or path.Seq (p ∷ ps))
in_order p [] w = w.0
in_order p (q ∷ ps) w = sequence (p ∷ q ∷ ps) tt w

any_of : (p : Path) (ps : List Path) → AllWritable (p ∷ ps) → IsWritablePath (one_or path.Alt (p ∷ ps))
any_of p [] w = w.0
any_of p (q ∷ ps) w = alternation (p ∷ q ∷ ps) tt w

of_step : (l : List LexKind) (p : Path) (rest : List LexKind) → Step l p rest → IsWritablePath p
of_step _ _ _ (along x v rest i) = tt
of_step _ _ _ (against x v rest i) = tt
of_step _ _ _ (any_along rest) = tt
of_step _ _ _ (any_against rest) = tt

of_repeat : (p : Path) (least : ℕ) (most : Option ℕ) → IsWritablePath p → IsWritablePath (path.Repeat p least most)
unfolding hidden hidden-the_row-Path-1
of_repeat p least most w = w

-- paths of which there is one at least, and which can be written
record Several (ps : List Path) : Type 0 where
  first : Path
  others : List Path
  are : ps ≡ first ∷ others
  writable : AllWritable (first ∷ others)

as_sequence : (ps : List Path) → Several ps → IsWritablePath (one_or path.Seq ps)
as_sequence ps s = subst (λ (z : List Path). IsWritablePath (one_or path.Seq z)) (sym s.are) (in_order s.first s.others s.writable)

module _ (constraints : ConstraintsAreWritable) where
  mutual
    of_atom : (l : List LexKind) (p : Path) (rest : List LexKind) → PathAtom l p rest → IsWritablePath p
    of_atom _ _ _ (step l p rest u) = of_step l p rest u
    of_atom _ _ _ (filter l c rest u) = constraints l c rest u
    of_atom _ _ _ (group l p rest u) = of_paths l p _ u

    of_part : (l : List LexKind) (p : Path) (rest : List LexKind) → PathPart l p rest → IsWritablePath p
    of_part _ _ _ (once l p rest u) = of_atom l p rest u
    of_part _ _ _ (repeated l p x least most rest u i) = of_repeat p least most (of_atom l p _ u)

    of_parts : (l : List LexKind) (ps : List Path) (rest : List LexKind) → PathParts l ps rest → Several ps
    of_parts _ _ _ (last l p rest u) = record { first = p; others = []; are = refl; writable = (of_part l p rest u, tt) }
    of_parts _ _ _ (more l p m ps rest u v) =
        let s = of_parts m ps rest v in
        record { first = p; others = ps; are = refl; writable = (of_part l p m u, subst AllWritable (sym s.are) s.writable) }

    of_choices : (l : List LexKind) (ps : List Path) (rest : List LexKind) → PathChoices l ps rest → Several ps
    of_choices _ _ _ (final l ps rest u) = record { first = one_or path.Seq ps; others = []; are = refl; writable = (as_sequence ps (of_parts l ps rest u), tt) }
    of_choices _ _ _ (next l ps m qs rest u v) =
        let s = of_choices m qs rest v in
        record { first = one_or path.Seq ps; others = qs; are = refl; writable = (as_sequence ps (of_parts l ps _ u), subst AllWritable (sym s.are) s.writable) }

    of_paths : (l : List LexKind) (p : Path) (rest : List LexKind) → Paths l p rest → IsWritablePath p
    of_paths _ _ _ (choice l ps rest u) = let s = of_choices l ps rest u in subst (λ (z : List Path). IsWritablePath (one_or path.Alt z)) (sym s.are) (any_of s.first s.others s.writable)

pub paths_are_writable : PathsAreWritable
paths_are_writable constraints l p rest u = of_paths constraints l p rest u
