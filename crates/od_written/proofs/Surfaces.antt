-- A surface that is written out is a word of the grammar for itself.
use Rattle.std.proofs.Common.{◌≡◌, ℕ, Bool, true, false, List, [], ◌∷◌, ◌++◌, Option, refl, sym, ◌∙◌, subst, append_assoc, append-nil}
use mathlib.Core.Former.{Count}
use denote.Hole.Carrier.{hidden}
use Rattle.od_pattern.specs.declared.pattern.Constraint.{Constraint}
use Rattle.od_pattern.specs.declared.pattern.Turns.{Turns}
use Rattle.od_pattern.specs.declared.pattern.Surface as surface
use Rattle.od_pattern.specs.declared.pattern.Surface.{Surface, Row_of-Surface, end_of-Surface, more_of-Surface, items-the_row-Surface}
use Rattle.od_pattern.specs.declared.pattern.Surface.TheBlock.{hidden-the_row-Surface-1}
use Rattle.od_language.specs.declared.lexeme.LexKind.{LexKind}
use Rattle.od_language.specs.declared.lexeme.LexKind.TheVariants.{NameOpen, Range, RoundClose, Or}
use Rattle.od_language.specs.Grammar.{IsConstraint}
use Rattle.od_language.specs.Written.{written, grouped, IsWritable}
use Rattle.od_language.proofs.Written.{written_back}
use Rattle.od_syntax.specs.Parts.{one_or, range}
use Rattle.od_syntax.specs.Sizes.{may_always}
use Rattle.od_syntax.specs.Surfaces.{IsLook, ahead, ahead_not, behind, behind_not, token, label, look, first, last as last_token, IsTurns, greedy, lazy, SurfaceAtom, single, group, capture, SurfacePart, once, repeated, SurfaceParts, last, more, SurfaceChoices, final, next, Surfaces, choice}
use Rattle.od_written.specs.Forms.{Forms, atom_form, repeat_form, sequence_form, alternation_form}
use Rattle.od_written.specs.Surfaces.{look_opening, lazy_mark, turns_written, enclosed, surface_forms, surface_parts, surface_choices, other_surface_choices, AreSomeSurfaces, IsWritableSurface, AreWritableSurfaces, SurfacesReadBack}
use Rattle.od_written.proofs.Rows.{surface_of_list}

-- what is written reads back, whatever follows, in each of the four places
abbrev pub WholeBack : List LexKind → Surface → Type 0
WholeBack l p = (rest : List LexKind) → Surfaces may_always (l ++ rest) p rest

pub record ChoiceBack (l : List LexKind) (p : Surface) : Type 0 where
  pub parts : List Surface
  pub one : one_or surface.Seq parts ≡ p
  pub back : (rest : List LexKind) → SurfaceParts may_always (l ++ rest) parts rest

abbrev pub PartBack : List LexKind → Surface → Type 0
PartBack l p = (rest : List LexKind) → SurfacePart may_always (l ++ rest) p rest

abbrev pub AtomBack : List LexKind → Surface → Type 0
AtomBack l p = (rest : List LexKind) → SurfaceAtom may_always (l ++ rest) p rest

pub record Back (f : Forms) (p : Surface) : Type 0 where
  pub whole : WholeBack f.as_whole p
  pub choice : ChoiceBack f.as_choice p
  pub part : PartBack f.as_part p
  pub atom : AtomBack f.as_atom p

up_to_close : (l : List LexKind) (p : Surface) (rest : List LexKind) → WholeBack l p → Surfaces may_always ((l ++ RoundClose ∷ []) ++ rest) p (RoundClose ∷ rest)
up_to_close l p rest u = subst (λ (z : List LexKind). Surfaces may_always z p (RoundClose ∷ rest)) (sym (append_assoc l (RoundClose ∷ []) rest)) (u (RoundClose ∷ rest))

in_brackets : (l : List LexKind) (p : Surface) → WholeBack l p → AtomBack (grouped l) p
in_brackets l p u rest = group ((l ++ RoundClose ∷ []) ++ rest) p rest (up_to_close l p rest u)

part_once : (l : List LexKind) (p : Surface) → AtomBack l p → PartBack l p
part_once l p u rest = once (l ++ rest) p rest (u rest)

one_part : (l : List LexKind) (p : Surface) → PartBack l p → ChoiceBack l p
one_part l p u = record { parts = p ∷ []; one = refl; back = λ rest. last (l ++ rest) p rest (u rest) }

one_choice : (l : List LexKind) (p : Surface) → ChoiceBack l p → WholeBack l p
one_choice l p u rest =
    subst (λ (z : Surface). Surfaces may_always (l ++ rest) z rest) u.one (choice (l ++ rest) (one_or surface.Seq u.parts ∷ []) rest (final (l ++ rest) u.parts rest (u.back rest)))

of_atom : (l : List LexKind) (p : Surface) → AtomBack l p → Back (atom_form l) p
of_atom l p u =
    let part = part_once l p u in
    let choice = one_part l p part in
    record { whole = one_choice l p choice; choice = choice; part = part; atom = u }

of_repeat : (l : List LexKind) (p : Surface) → PartBack l p → Back (repeat_form l) p
of_repeat l p u =
    let choice = one_part l p u in
    let whole = one_choice l p choice in
    record { whole = whole; choice = choice; part = u; atom = in_brackets l p whole }

of_sequence : (l : List LexKind) (p : Surface) → ChoiceBack l p → Back (sequence_form l) p
of_sequence l p u =
    let whole = one_choice l p u in
    let atom = in_brackets l p whole in
    record { whole = whole; choice = u; part = part_once (grouped l) p atom; atom = atom }

of_alternation : (l : List LexKind) (p : Surface) → WholeBack l p → Back (alternation_form l) p
of_alternation l p u =
    let atom = in_brackets l p u in
    let part = part_once (grouped l) p atom in
    record { whole = u; choice = one_part (grouped l) p part; part = part; atom = atom }

opens_look : (here positive : Bool) → IsLook (look_opening here positive) here positive
opens_look true true = ahead
opens_look true false = ahead_not
opens_look false true = behind
opens_look false false = behind_not

look_back : (here positive : Bool) (c : Constraint) → IsWritable c → AtomBack (enclosed (look_opening here positive) (written c)) (surface.Look here positive c)
look_back here positive c w rest =
    single _ _ rest (look (look_opening here positive) here positive ((written c ++ RoundClose ∷ []) ++ rest) c rest (opens_look here positive)
    (subst (λ (z : List LexKind). IsConstraint z c (RoundClose ∷ rest)) (sym (append_assoc (written c) (RoundClose ∷ []) rest)) (written_back c w (RoundClose ∷ rest))))

turns_back : (least : ℕ) (most : Option ℕ) (is_lazy : Bool) (rest : List LexKind) → IsTurns (Range least most ∷ (lazy_mark is_lazy ++ rest)) (record { least = least; most = most; lazy = is_lazy }) rest
turns_back least most true rest = lazy (Range least most) least most rest (range least most)
turns_back least most false rest = greedy (Range least most) least most rest (range least most)

with_quantifier : (l : List LexKind) (p : Surface) (turns : Turns) → AtomBack l p → PartBack (l ++ turns_written turns) (surface.Repeat p turns)
with_quantifier l p turns u rest =
    subst (λ (z : List LexKind). SurfacePart may_always z (surface.Repeat p turns) rest) (sym (append_assoc l (turns_written turns) rest))
    (repeated (l ++ (turns_written turns ++ rest)) p (turns_written turns ++ rest) turns rest (u (turns_written turns ++ rest)) (turns_back turns.least turns.most turns.lazy rest) refl)

-- several parts are one surface of them
sequence_of : (n : Count) (row : Row_of-Surface n) → AreSomeSurfaces row → one_or surface.Seq (items-the_row-Surface n row) ≡ surface.Seq (items-the_row-Surface n row)
sequence_of n end_of-Surface h = absurd h
sequence_of n (more_of-Surface p end_of-Surface) h = absurd h
sequence_of n (more_of-Surface p (more_of-Surface q rest)) h = refl

alternation_of : (n : Count) (row : Row_of-Surface n) → AreSomeSurfaces row → one_or surface.Alt (items-the_row-Surface n row) ≡ surface.Alt (items-the_row-Surface n row)
alternation_of n end_of-Surface h = absurd h
alternation_of n (more_of-Surface p end_of-Surface) h = absurd h
alternation_of n (more_of-Surface p (more_of-Surface q rest)) h = refl

mutual
  unfolding hidden hidden-the_row-Surface-1

  pub back : (p : Surface) → IsWritableSurface p → Back (surface_forms p) p
  back (surface.Token c) w = of_atom (written c) (surface.Token c) (λ rest. single _ _ rest (token (written c ++ rest) c rest (written_back c w rest)))
  back (surface.Label name) w = of_atom _ (surface.Label name) (λ rest. single _ _ rest (label name rest w))
  back (surface.Look here positive c) w = of_atom _ (surface.Look here positive c) (look_back here positive c w)
  back surface.First w = of_atom _ surface.First (λ rest. single _ _ rest (first rest))
  back surface.Last w = of_atom _ surface.Last (λ rest. single _ _ rest (last_token rest))
  back (surface.Seq' v row) w = of_sequence (surface_parts row) (surface.Seq' v row) (record {
    parts = items-the_row-Surface _ row;
    one = sequence_of _ row w.0 ∙ surface_of_list (surface.Seq' v row);
    back = parts_back _ row w.0 w.1;
  })
  back (surface.Alt' v row) w = of_alternation (surface_choices row) (surface.Alt' v row)
      (λ rest. subst (λ (z : Surface). Surfaces may_always (surface_choices row ++ rest) z rest) (alternation_of _ row w.0 ∙ surface_of_list (surface.Alt' v row))
      (choice (surface_choices row ++ rest) (items-the_row-Surface _ row) rest (choices_back _ row w.0 w.1 rest)))
  back (surface.Repeat' v (more_of-Surface p end_of-Surface) turns) w =
      of_repeat ((surface_forms p).as_atom ++ turns_written turns) (surface.Repeat p turns) (with_quantifier (surface_forms p).as_atom p turns (back p w).atom)
  back (surface.Capture' name v (more_of-Surface p end_of-Surface)) w = of_atom (enclosed (NameOpen name) (surface_forms p).as_whole) (surface.Capture name p)
      (λ rest. capture name (((surface_forms p).as_whole ++ RoundClose ∷ []) ++ rest) p rest (up_to_close (surface_forms p).as_whole p rest (back p w).whole))

  parts_back : (n : Count) (row : Row_of-Surface n) → AreSomeSurfaces row → AreWritableSurfaces row → (rest : List LexKind) → SurfaceParts may_always (surface_parts row ++ rest) (items-the_row-Surface n row) rest
  parts_back n end_of-Surface h w rest = absurd h
  parts_back n (more_of-Surface p row) h w rest = parts_from _ row w.1 (surface_forms p).as_part p (back p w.0).part rest

  -- further parts behind one
  parts_from : (n : Count) (row : Row_of-Surface n) → AreWritableSurfaces row → (l : List LexKind) (p : Surface) → PartBack l p → (rest : List LexKind) →
      SurfaceParts may_always ((l ++ surface_parts row) ++ rest) (p ∷ items-the_row-Surface n row) rest
  parts_from n end_of-Surface w l p u rest = last ((l ++ []) ++ rest) p rest (subst (λ (z : List LexKind). SurfacePart may_always (z ++ rest) p rest) (sym (append-nil l)) (u rest))
  parts_from n (more_of-Surface q row) w l p u rest =
      let others : List LexKind = surface_parts (more_of-Surface q row) in
      more ((l ++ others) ++ rest) p (others ++ rest) (q ∷ items-the_row-Surface _ row) rest
      (subst (λ (z : List LexKind). SurfacePart may_always z p (others ++ rest)) (sym (append_assoc l others rest)) (u (others ++ rest)))
      (parts_from _ row w.1 (surface_forms q).as_part q (back q w.0).part rest)

  choices_back : (n : Count) (row : Row_of-Surface n) → AreSomeSurfaces row → AreWritableSurfaces row → (rest : List LexKind) → SurfaceChoices may_always (surface_choices row ++ rest) (items-the_row-Surface n row) rest
  choices_back n end_of-Surface h w rest = absurd h
  choices_back n (more_of-Surface p row) h w rest = choices_from _ row w.1 (surface_forms p).as_choice p (back p w.0).choice rest

  -- further choices behind one
  choices_from : (n : Count) (row : Row_of-Surface n) → AreWritableSurfaces row → (l : List LexKind) (p : Surface) → ChoiceBack l p → (rest : List LexKind) →
      SurfaceChoices may_always ((l ++ other_surface_choices row) ++ rest) (p ∷ items-the_row-Surface n row) rest
  choices_from n end_of-Surface w l p u rest =
      subst (λ (z : Surface). SurfaceChoices may_always ((l ++ []) ++ rest) (z ∷ []) rest) u.one
      (final ((l ++ []) ++ rest) u.parts rest (subst (λ (z : List LexKind). SurfaceParts may_always (z ++ rest) u.parts rest) (sym (append-nil l)) (u.back rest)))
  choices_from n (more_of-Surface q row) w l p u rest =
      let others : List LexKind = surface_choices (more_of-Surface q row) in
      subst (λ (z : Surface). SurfaceChoices may_always ((l ++ Or ∷ others) ++ rest) (z ∷ q ∷ items-the_row-Surface _ row) rest) u.one
      (next ((l ++ Or ∷ others) ++ rest) u.parts (others ++ rest) (q ∷ items-the_row-Surface _ row) rest
      (subst (λ (z : List LexKind). SurfaceParts may_always z u.parts (Or ∷ (others ++ rest))) (sym (append_assoc l (Or ∷ others) rest)) (u.back (Or ∷ (others ++ rest))))
      (choices_from _ row w.1 (surface_forms q).as_choice q (back q w.0).choice rest))

pub surfaces_read_back : SurfacesReadBack
surfaces_read_back p w rest = (back p w).whole rest
