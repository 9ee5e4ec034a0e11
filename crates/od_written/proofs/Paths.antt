-- A path that is written out is a word of the grammar for itself.
use Rattle.std.proofs.Common.{◌≡◌, ℕ, List, [], ◌∷◌, ◌++◌, Option, Some, None, refl, sym, ◌∙◌, subst, append_assoc, append-nil}
use mathlib.Core.Former.{Count}
use denote.Hole.Carrier.{hidden}
use Rattle.od_pattern.specs.declared.pattern.Field.TheVariants.{Incoming}
use Rattle.od_pattern.specs.declared.pattern.Value.{Value}
use Rattle.od_pattern.specs.declared.pattern.Value.TheVariants.{Plain}
use Rattle.od_pattern.specs.declared.pattern.Value.TheVariants as value
use Rattle.od_pattern.specs.declared.path.Path as path
use Rattle.od_pattern.specs.declared.path.Path.{Path, Row_of-Path, end_of-Path, more_of-Path, items-the_row-Path}
use Rattle.od_pattern.specs.declared.path.Path.TheBlock.{hidden-the_row-Path-1}
use Rattle.od_language.specs.declared.lexeme.LexKind.{LexKind}
use Rattle.od_language.specs.declared.lexeme.LexKind.TheVariants.{Range, RoundClose, Or}
use Rattle.od_language.specs.Fields.{quoted, regex}
use Rattle.od_language.specs.Written.{value_written, written, grouped}
use Rattle.od_language.proofs.Written.{written_back}
use Rattle.od_syntax.specs.Parts.{IsLabel, one_or, range}
use Rattle.od_syntax.specs.Paths.{along, against, any_along, any_against, PathAtom, step, filter, group, PathPart, once, repeated, PathParts, last, more, PathChoices, final, next, Paths, choice}
use Rattle.od_written.specs.Forms.{Forms, atom_form, repeat_form, sequence_form, alternation_form}
use Rattle.od_written.specs.Paths.{path_forms, path_parts, path_choices, other_path_choices, AreSomePaths, IsWritablePath, AreWritablePaths, PathsReadBack}
use Rattle.od_written.proofs.Rows.{path_of_list}

-- what is written reads back, whatever follows, in each of the four places
abbrev pub WholeBack : List LexKind → Path → Type 0
WholeBack l p = (rest : List LexKind) → Paths (l ++ rest) p rest

pub record ChoiceBack (l : List LexKind) (p : Path) : Type 0 where
  pub parts : List Path
  pub one : one_or path.Seq parts ≡ p
  pub back : (rest : List LexKind) → PathParts (l ++ rest) parts rest

abbrev pub PartBack : List LexKind → Path → Type 0
PartBack l p = (rest : List LexKind) → PathPart (l ++ rest) p rest

abbrev pub AtomBack : List LexKind → Path → Type 0
AtomBack l p = (rest : List LexKind) → PathAtom (l ++ rest) p rest

pub record Back (f : Forms) (p : Path) : Type 0 where
  pub whole : WholeBack f.as_whole p
  pub choice : ChoiceBack f.as_choice p
  pub part : PartBack f.as_part p
  pub atom : AtomBack f.as_atom p

in_brackets : (l : List LexKind) (p : Path) → WholeBack l p → AtomBack (grouped l) p
in_brackets l p u rest =
    group ((l ++ RoundClose ∷ []) ++ rest) p rest (subst (λ (z : List LexKind). Paths z p (RoundClose ∷ rest)) (sym (append_assoc l (RoundClose ∷ []) rest)) (u (RoundClose ∷ rest)))

part_once : (l : List LexKind) (p : Path) → AtomBack l p → PartBack l p
part_once l p u rest = once (l ++ rest) p rest (u rest)

one_part : (l : List LexKind) (p : Path) → PartBack l p → ChoiceBack l p
one_part l p u = record { parts = p ∷ []; one = refl; back = λ rest. last (l ++ rest) p rest (u rest) }

one_choice : (l : List LexKind) (p : Path) → ChoiceBack l p → WholeBack l p
one_choice l p u rest = subst (λ (z : Path). Paths (l ++ rest) z rest) u.one (choice (l ++ rest) (one_or path.Seq u.parts ∷ []) rest (final (l ++ rest) u.parts rest (u.back rest)))

of_atom : (l : List LexKind) (p : Path) → AtomBack l p → Back (atom_form l) p
of_atom l p u =
    let part = part_once l p u in
    let choice = one_part l p part in
    record { whole = one_choice l p choice; choice = choice; part = part; atom = u }

of_repeat : (l : List LexKind) (p : Path) → PartBack l p → Back (repeat_form l) p
of_repeat l p u =
    let choice = one_part l p u in
    let whole = one_choice l p choice in
    record { whole = whole; choice = choice; part = u; atom = in_brackets l p whole }

of_sequence : (l : List LexKind) (p : Path) → ChoiceBack l p → Back (sequence_form l) p
of_sequence l p u =
    let whole = one_choice l p u in
    let atom = in_brackets l p whole in
    record { whole = whole; choice = u; part = part_once (grouped l) p atom; atom = atom }

of_alternation : (l : List LexKind) (p : Path) → WholeBack l p → Back (alternation_form l) p
of_alternation l p u =
    let atom = in_brackets l p u in
    let part = part_once (grouped l) p atom in
    record { whole = u; choice = one_part (grouped l) p part; part = part; atom = atom }

pub label_back : (v : Value) → IsLabel (value_written v) v
label_back (Plain text) = quoted Incoming text
label_back (value.Regex text) = regex Incoming text

with_quantifier : (l : List LexKind) (p : Path) (least : ℕ) (most : Option ℕ) → AtomBack l p → PartBack (l ++ Range least most ∷ []) (path.Repeat p least most)
with_quantifier l p least most u rest =
    subst (λ (z : List LexKind). PathPart z (path.Repeat p least most) rest) (sym (append_assoc l (Range least most ∷ []) rest))
    (repeated (l ++ Range least most ∷ rest) p (Range least most) least most rest (u (Range least most ∷ rest)) (range least most))

-- several parts are one path of them
pub sequence_of : (n : Count) (row : Row_of-Path n) → AreSomePaths row → one_or path.Seq (items-the_row-Path n row) ≡ path.Seq (items-the_row-Path n row)
sequence_of n end_of-Path h = absurd h
sequence_of n (more_of-Path p end_of-Path) h = absurd h
sequence_of n (more_of-Path p (more_of-Path q rest)) h = refl

alternation_of : (n : Count) (row : Row_of-Path n) → AreSomePaths row → one_or path.Alt (items-the_row-Path n row) ≡ path.Alt (items-the_row-Path n row)
alternation_of n end_of-Path h = absurd h
alternation_of n (more_of-Path p end_of-Path) h = absurd h
alternation_of n (more_of-Path p (more_of-Path q rest)) h = refl

mutual
  unfolding hidden hidden-the_row-Path-1

  pub back : (p : Path) → IsWritablePath p → Back (path_forms p) p
  back (path.Along None) w = of_atom _ (path.Along None) (λ rest. step _ _ rest (any_along rest))
  back (path.Along (Some v)) w = of_atom _ (path.Along (Some v)) (λ rest. step _ _ rest (along (value_written v) v rest (label_back v)))
  back (path.Against None) w = of_atom _ (path.Against None) (λ rest. step _ _ rest (any_against rest))
  back (path.Against (Some v)) w = of_atom _ (path.Against (Some v)) (λ rest. step _ _ rest (against (value_written v) v rest (label_back v)))
  back (path.Filter c) w = of_atom (written c) (path.Filter c) (λ rest. filter (written c ++ rest) c rest (written_back c w rest))
  back (path.Seq' v row) w = of_sequence (path_parts row) (path.Seq' v row) (record {
    parts = items-the_row-Path _ row;
    one = sequence_of _ row w.0 ∙ path_of_list (path.Seq' v row);
    back = parts_back _ row w.0 w.1;
  })
  back (path.Alt' v row) w = of_alternation (path_choices row) (path.Alt' v row)
      (λ rest. subst (λ (z : Path). Paths (path_choices row ++ rest) z rest) (alternation_of _ row w.0 ∙ path_of_list (path.Alt' v row))
      (choice (path_choices row ++ rest) (items-the_row-Path _ row) rest (choices_back _ row w.0 w.1 rest)))
  back (path.Repeat' v (more_of-Path p end_of-Path) least most) w = of_repeat ((path_forms p).as_atom ++ Range least most ∷ []) (path.Repeat p least most) (with_quantifier (path_forms p).as_atom p least most (back p w).atom)

  parts_back : (n : Count) (row : Row_of-Path n) → AreSomePaths row → AreWritablePaths row → (rest : List LexKind) → PathParts (path_parts row ++ rest) (items-the_row-Path n row) rest
  parts_back n end_of-Path h w rest = absurd h
  parts_back n (more_of-Path p row) h w rest = parts_from _ row w.1 (path_forms p).as_part p (back p w.0).part rest

  -- further parts behind one
  parts_from : (n : Count) (row : Row_of-Path n) → AreWritablePaths row → (l : List LexKind) (p : Path) → PartBack l p → (rest : List LexKind) → PathParts ((l ++ path_parts row) ++ rest) (p ∷ items-the_row-Path n row) rest
  parts_from n end_of-Path w l p u rest = last ((l ++ []) ++ rest) p rest (subst (λ (z : List LexKind). PathPart (z ++ rest) p rest) (sym (append-nil l)) (u rest))
  parts_from n (more_of-Path q row) w l p u rest =
      let others : List LexKind = path_parts (more_of-Path q row) in
      more ((l ++ others) ++ rest) p (others ++ rest) (q ∷ items-the_row-Path _ row) rest
      (subst (λ (z : List LexKind). PathPart z p (others ++ rest)) (sym (append_assoc l others rest)) (u (others ++ rest)))
      (parts_from _ row w.1 (path_forms q).as_part q (back q w.0).part rest)

  choices_back : (n : Count) (row : Row_of-Path n) → AreSomePaths row → AreWritablePaths row → (rest : List LexKind) → PathChoices (path_choices row ++ rest) (items-the_row-Path n row) rest
  choices_back n end_of-Path h w rest = absurd h
  choices_back n (more_of-Path p row) h w rest = choices_from _ row w.1 (path_forms p).as_choice p (back p w.0).choice rest

  -- further choices behind one
  choices_from : (n : Count) (row : Row_of-Path n) → AreWritablePaths row → (l : List LexKind) (p : Path) → ChoiceBack l p → (rest : List LexKind) →
      PathChoices ((l ++ other_path_choices row) ++ rest) (p ∷ items-the_row-Path n row) rest
  choices_from n end_of-Path w l p u rest =
      subst (λ (z : Path). PathChoices ((l ++ []) ++ rest) (z ∷ []) rest) u.one
      (final ((l ++ []) ++ rest) u.parts rest (subst (λ (z : List LexKind). PathParts (z ++ rest) u.parts rest) (sym (append-nil l)) (u.back rest)))
  choices_from n (more_of-Path q row) w l p u rest =
      let others : List LexKind = path_choices (more_of-Path q row) in
      subst (λ (z : Path). PathChoices ((l ++ Or ∷ others) ++ rest) (z ∷ q ∷ items-the_row-Path _ row) rest) u.one
      (next ((l ++ Or ∷ others) ++ rest) u.parts (others ++ rest) (q ∷ items-the_row-Path _ row) rest
      (subst (λ (z : List LexKind). PathParts z u.parts (Or ∷ (others ++ rest))) (sym (append_assoc l (Or ∷ others) rest)) (u.back (Or ∷ (others ++ rest))))
      (choices_from _ row w.1 (path_forms q).as_choice q (back q w.0).choice rest))

pub paths_read_back : PathsReadBack
paths_read_back p w rest = (back p w).whole rest
