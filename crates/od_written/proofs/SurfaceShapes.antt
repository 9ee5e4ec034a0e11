-- The surfaces that the grammar gives can be written.
use Rattle.std.proofs.Common.{◌≡◌, ℕ, List, [], ◌∷◌, codes, refl, sym, subst}
use mathlib.Core.Former.{Count}
use denote.Hole.Carrier.{hidden}
use Rattle.od_pattern.specs.declared.pattern.Surface as surface
use Rattle.od_pattern.specs.declared.pattern.Surface.{Surface, Row_of-Surface, end_of-Surface, more_of-Surface, items-the_row-Surface, items_hidden-the_row-Surface-0}
use Rattle.od_pattern.specs.declared.pattern.Surface.TheBlock.{hidden-the_row-Surface-1}
use Rattle.od_pattern.specs.declared.pattern.Constraint.{Constraint}
use Rattle.od_pattern.specs.declared.pattern.Constraint.TheVariants as constraint
use Rattle.od_pattern.specs.declared.pattern.Field.TheVariants.{Norm}
use Rattle.od_pattern.specs.declared.pattern.Turns.{Turns}
use Rattle.od_pattern.specs.declared.pattern.Value.{Value}
use Rattle.od_language.specs.declared.lexeme.LexKind.{LexKind}
use Rattle.od_language.specs.declared.lexeme.LexKind.TheVariants.{Word, Equal, SquareOpen, SquareClose}
use Rattle.od_language.specs.Fields.{field_named, IsValue}
use Rattle.od_language.specs.Grammar.{some, test, first as first_part, one as one_part}
use Rattle.od_language.specs.Written.{IsWritable}
use Rattle.od_syntax.specs.Parts.{one_or}
use Rattle.od_syntax.specs.Sizes.{may_always}
use Rattle.od_syntax.specs.Surfaces.{Single, token, value, label, look, first, last as last_token, SurfaceAtom, single, group, capture, SurfacePart, once, repeated, SurfaceParts, last, more, SurfaceChoices, final, next, Surfaces, choice}
use Rattle.od_written.specs.Forms.{ConstraintsAreWritable}
use Rattle.od_written.specs.Surfaces.{AreSomeSurfaces, IsWritableSurface, AreWritableSurfaces, SurfacesAreWritable}

-- the surfaces of a list can be written
abbrev AllWritable : List Surface → Type 0
AllWritable [] = Unit {0}
AllWritable (p ∷ ps) = IsWritableSurface p × AllWritable ps

-- two or more
abbrev AreSome : List Surface → Type 0
AreSome [] = ⊥
AreSome (p ∷ []) = ⊥
AreSome (p ∷ q ∷ ps) = Unit {0}

-- the row of a sequence or an alternation
abbrev row_of : Surface → (n : Count) × Row_of-Surface n
row_of (surface.Seq' _ row) = (_, row)
row_of _ = (_, end_of-Surface)

some_row : (n : Count) (row : Row_of-Surface n) → AreSome (items-the_row-Surface n row) → AreSomeSurfaces row
some_row n end_of-Surface h = absurd h
some_row n (more_of-Surface p end_of-Surface) h = absurd h
some_row n (more_of-Surface p (more_of-Surface q row)) h = tt

writable_row : (n : Count) (row : Row_of-Surface n) → AllWritable (items-the_row-Surface n row) → AreWritableSurfaces row
writable_row n end_of-Surface w = tt
writable_row n (more_of-Surface p row) w = (w.0, writable_row _ row w.1)

sequence : (ps : List Surface) → AreSome ps → AllWritable ps → IsWritableSurface (surface.Seq ps)
sequence ps h w =
    let row = row_of (surface.Seq ps) in
    let e = sym (items_hidden-the_row-Surface-0 ps) in
    (some_row row.0 row.1 (subst AreSome e h), writable_row row.0 row.1 (subst AllWritable e w))

alternation : (ps : List Surface) → AreSome ps → AllWritable ps → IsWritableSurface (surface.Alt ps)
alternation ps h w =
    let row = row_of (surface.Seq ps) in
    let e = sym (items_hidden-the_row-Surface-0 ps) in
    (some_row row.0 row.1 (subst AreSome e h), writable_row row.0 row.1 (subst AllWritable e w))

-- one part alone, or several
in_order : (p : Surface) (ps : List Surface) → AllWritable (p ∷ ps) → IsWritableSurface (one_or surface.Seq (p ∷ ps))
in_order p [] w = w.0
in_order p (q ∷ ps) w = sequence (p ∷ q ∷ ps) tt w

any_of : (p : Surface) (ps : List Surface) → AllWritable (p ∷ ps) → IsWritableSurface (one_or surface.Alt (p ∷ ps))
any_of p [] w = w.0
any_of p (q ∷ ps) w = alternation (p ∷ q ∷ ps) tt w

of_repeat : (p : Surface) (turns : Turns) → IsWritableSurface p → IsWritableSurface (surface.Repeat p turns)
unfolding hidden hidden-the_row-Surface-1
of_repeat p turns w = w

of_capture : (name : List ℕ) (p : Surface) → IsWritableSurface p → IsWritableSurface (surface.Capture name p)
unfolding hidden hidden-the_row-Surface-1
of_capture name p w = w

-- surfaces of which there is one at least, and which can be written
record Several (ps : List Surface) : Type 0 where
  head : Surface
  others : List Surface
  are : ps ≡ head ∷ others
  writable : AllWritable (head ∷ others)

-- a value alone asks what it does behind `norm=`
of_value : ConstraintsAreWritable → (x : LexKind) (v : Value) → IsValue Norm x v → IsWritable (constraint.Is Norm v)
unfolding field_named
of_value constraints x v i =
    let c : Constraint = constraint.Is Norm v in
    let l : List LexKind = Word (codes "norm") ∷ Equal ∷ x ∷ SquareClose ∷ [] in
    constraints (SquareOpen ∷ l) c [] (some l c [] (first_part l c _ (one_part l c _ (test (codes "norm") Norm x v (SquareClose ∷ []) refl i))))

of_single : ConstraintsAreWritable → (l : List LexKind) (p : Surface) (rest : List LexKind) → Single l p rest → IsWritableSurface p
of_single constraints _ _ _ (token l c rest u) = constraints l c rest u
of_single constraints _ _ _ (value x v rest i) = of_value constraints x v i
of_single constraints _ _ _ (label name rest e) = e
of_single constraints _ _ _ (look x here positive l c rest i u) = constraints l c _ u
of_single constraints _ _ _ (first rest) = tt
of_single constraints _ _ _ (last_token rest) = tt

as_sequence : (ps : List Surface) → Several ps → IsWritableSurface (one_or surface.Seq ps)
as_sequence ps s = subst (λ (z : List Surface). IsWritableSurface (one_or surface.Seq z)) (sym s.are) (in_order s.head s.others s.writable)

module _ (constraints : ConstraintsAreWritable) where
  mutual
    of_atom : (l : List LexKind) (p : Surface) (rest : List LexKind) → SurfaceAtom may_always l p rest → IsWritableSurface p
    of_atom _ _ _ (single l p rest u) = of_single constraints l p rest u
    of_atom _ _ _ (group l p rest u) = of_surface l p _ u
    of_atom _ _ _ (capture name l p rest u) = of_capture name p (of_surface l p _ u)

    of_part : (l : List LexKind) (p : Surface) (rest : List LexKind) → SurfacePart may_always l p rest → IsWritableSurface p
    of_part _ _ _ (once l p rest u) = of_atom l p rest u
    of_part _ _ _ (repeated l p m turns rest u i h) = of_repeat p turns (of_atom l p m u)

    of_parts : (l : List LexKind) (ps : List Surface) (rest : List LexKind) → SurfaceParts may_always l ps rest → Several ps
    of_parts _ _ _ (last l p rest u) = record { head = p; others = []; are = refl; writable = (of_part l p rest u, tt) }
    of_parts _ _ _ (more l p m ps rest u v) =
        let s = of_parts m ps rest v in
        record { head = p; others = ps; are = refl; writable = (of_part l p m u, subst AllWritable (sym s.are) s.writable) }

    of_choices : (l : List LexKind) (ps : List Surface) (rest : List LexKind) → SurfaceChoices may_always l ps rest → Several ps
    of_choices _ _ _ (final l ps rest u) = record { head = one_or surface.Seq ps; others = []; are = refl; writable = (as_sequence ps (of_parts l ps rest u), tt) }
    of_choices _ _ _ (next l ps m qs rest u v) =
        let s = of_choices m qs rest v in
        record { head = one_or surface.Seq ps; others = qs; are = refl; writable = (as_sequence ps (of_parts l ps _ u), subst AllWritable (sym s.are) s.writable) }

    of_surface : (l : List LexKind) (p : Surface) (rest : List LexKind) → Surfaces may_always l p rest → IsWritableSurface p
    of_surface _ _ _ (choice l ps rest u) = let s = of_choices l ps rest u in subst (λ (z : List Surface). IsWritableSurface (one_or surface.Alt z)) (sym s.are) (any_of s.head s.others s.writable)

pub surfaces_are_writable : SurfacesAreWritable
surfaces_are_writable constraints l p rest u = of_surface constraints l p rest u
