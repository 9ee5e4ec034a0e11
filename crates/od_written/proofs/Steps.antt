-- Steps that are written out are a word of the grammar for themselves, their brackets told apart.
use Rattle.std.proofs.Common.{◌≡◌, ℕ, Bool, true, false, if◌then◌else◌, List, [], ◌∷◌, ◌++◌, Option, Some, None, refl, sym, ◌∙◌, ap, subst, append_assoc, append-nil}
use mathlib.Core.Former.{Count}
use denote.Hole.Carrier.{hidden}
use Rattle.od_pattern.specs.declared.pattern.Value.{Value}
use Rattle.od_pattern.specs.declared.pattern.Value.TheVariants.{Plain}
use Rattle.od_pattern.specs.declared.pattern.Value.TheVariants as value
use Rattle.od_pattern.specs.declared.pattern.Constraint.{Constraint}
use Rattle.od_pattern.specs.declared.pattern.Constraint.TheVariants.{Any, Is, Not', And', Or'}
use Rattle.od_pattern.specs.declared.path.Path as path
use Rattle.od_pattern.specs.declared.path.Path.{Path, Row_of-Path, end_of-Path, more_of-Path, items-the_row-Path}
use Rattle.od_pattern.specs.declared.path.Path.TheBlock.{hidden-the_row-Path-1}
use Rattle.od_language.specs.declared.lexeme.LexKind.{LexKind}
use Rattle.od_language.specs.declared.lexeme.LexKind.TheVariants.{Range, SquareOpen, SquareClose, RoundOpen, RoundClose, Or}
use Rattle.od_language.specs.declared.lexeme.LexKind.TheVariants as lexeme_kind
use Rattle.od_language.specs.Written.{value_written, written, grouped}
use Rattle.od_language.specs.Written as constraint_forms
use Rattle.od_syntax.specs.Hops.{StepAtom, step, group, StepPart, once, repeated, StepParts, last, more, Steps, all}
use Rattle.od_syntax.specs.Parts.{range}
use Rattle.od_syntax.specs.Paths.{along, against, any_along, any_against, Paths}
use Rattle.od_syntax.specs.Told.{Told, lexeme, steps_open, leads_to_steps, in_constraint, told_of, untold, all_untold}
use Rattle.od_written.specs.Forms.{Forms, atom_form}
use Rattle.od_written.specs.Hops.{kinds_told, AllLead, StepsReadBack}
use Rattle.od_written.specs.Paths.{edge_written, path_forms, path_parts, path_choices, other_path_choices, AreSomePaths, IsWritablePath, AreWritablePaths}
use Rattle.od_written.proofs.Paths.{WholeBack, back, label_back, sequence_of}
use Rattle.od_written.proofs.Rows.{path_of_list}

-- whether a constraint is open behind lexemes
abbrev pub open_behind : Bool → List LexKind → Bool
open_behind within [] = within
open_behind within (x ∷ l) = open_behind (in_constraint within x) l

open_append : (within : Bool) (a b : List LexKind) → open_behind within (a ++ b) ≡ open_behind (open_behind within a) b
open_append within [] b = refl
open_append within (x ∷ a) b = open_append (in_constraint within x) a b

-- no constraint is open behind lexemes before which none is
abbrev pub IsBalanced : List LexKind → Type 0
IsBalanced l = open_behind false l ≡ false

balanced_then : (a b : List LexKind) → IsBalanced a → IsBalanced b → IsBalanced (a ++ b)
balanced_then a b u v = open_append false a b ∙ ap (λ z. open_behind z b) u ∙ v

up_to_square : (l : List LexKind) → IsBalanced (SquareOpen ∷ (l ++ SquareClose ∷ []))
up_to_square l = open_append true l (SquareClose ∷ [])

balanced_constraint : (c : Constraint) → IsBalanced (written c)
balanced_constraint Any = refl
balanced_constraint (Is f v) = up_to_square (constraint_forms.forms (Is f v)).as_or
balanced_constraint (Not' s r) = up_to_square (constraint_forms.forms (Not' s r)).as_or
balanced_constraint (And' s r q t) = up_to_square (constraint_forms.forms (And' s r q t)).as_or
balanced_constraint (Or' s r q t) = up_to_square (constraint_forms.forms (Or' s r q t)).as_or

balanced_edge : (arrow any : LexKind) (v : Option Value) → IsBalanced (arrow ∷ []) → IsBalanced (any ∷ []) → IsBalanced (edge_written arrow any v)
balanced_edge arrow any None a b = b
balanced_edge arrow any (Some (Plain text)) a b = a
balanced_edge arrow any (Some (value.Regex text)) a b = a

-- in brackets or not
pub record AreBalanced (f : Forms) : Type 0 where
  pub whole : IsBalanced f.as_whole
  pub choice : IsBalanced f.as_choice
  pub part : IsBalanced f.as_part
  pub atom : IsBalanced f.as_atom

balanced_grouped : (l : List LexKind) → IsBalanced l → IsBalanced (grouped l)
balanced_grouped l u = balanced_then l (RoundClose ∷ []) u refl

balanced_atom : (l : List LexKind) → IsBalanced l → AreBalanced (atom_form l)
balanced_atom l u = record { whole = u; choice = u; part = u; atom = u }

mutual
  pub balanced : (p : Path) → AreBalanced (path_forms p)
  balanced (path.Along v) = balanced_atom _ (balanced_edge lexeme_kind.Along lexeme_kind.AnyAlong v refl refl)
  balanced (path.Against v) = balanced_atom _ (balanced_edge lexeme_kind.Against lexeme_kind.AnyAgainst v refl refl)
  balanced (path.Filter c) = balanced_atom (written c) (balanced_constraint c)
  balanced (path.Seq' v row) = let u = balanced_parts _ row in let g = balanced_grouped (path_parts row) u in record { whole = u; choice = u; part = g; atom = g }
  balanced (path.Alt' v row) = let u = balanced_choices _ row in let g = balanced_grouped (path_choices row) u in record { whole = u; choice = g; part = g; atom = g }
  balanced (path.Repeat' v (more_of-Path p end_of-Path) least most) =
      let l : List LexKind = (path_forms p).as_atom ++ Range least most ∷ [] in
      let u : IsBalanced l = balanced_then (path_forms p).as_atom (Range least most ∷ []) (balanced p).atom refl in
      record { whole = u; choice = u; part = u; atom = balanced_grouped l u }

  balanced_parts : (n : Count) (row : Row_of-Path n) → IsBalanced (path_parts row)
  balanced_parts n end_of-Path = refl
  balanced_parts n (more_of-Path p row) = balanced_then (path_forms p).as_part (path_parts row) (balanced p).part (balanced_parts _ row)

  balanced_choices : (n : Count) (row : Row_of-Path n) → IsBalanced (path_choices row)
  balanced_choices n end_of-Path = refl
  balanced_choices n (more_of-Path p row) = balanced_then (path_forms p).as_choice (other_path_choices row) (balanced p).choice (balanced_others _ row)

  balanced_others : (n : Count) (row : Row_of-Path n) → IsBalanced (other_path_choices row)
  balanced_others n end_of-Path = refl
  balanced_others n (more_of-Path p row) = balanced_then (path_forms p).as_choice (other_path_choices row) (balanced p).choice (balanced_others _ row)

-- lexemes told apart, which others follow
abbrev pub told_before : Bool → List LexKind → List LexKind → List Told
told_before within [] b = []
told_before within (x ∷ a) b = told_of within x (a ++ b) ∷ told_before (in_constraint within x) a b

pub told_append : (within : Bool) (a b : List LexKind) → kinds_told within (a ++ b) ≡ told_before within a b ++ kinds_told (open_behind within a) b
told_append within [] b = refl
told_append within (x ∷ a) b = ap (λ z. told_of within x (a ++ b) ∷ z) (told_append (in_constraint within x) a b)

untold_bracket : (b : Bool) → untold (if b then steps_open else lexeme RoundOpen) ≡ RoundOpen
untold_bracket true = refl
untold_bracket false = refl

untold_one : (within : Bool) (x : LexKind) (m : List LexKind) → untold (told_of within x m) ≡ x
untold_one false RoundOpen m = untold_bracket (leads_to_steps m)
untold_one within x m = refl

pub untold_before : (within : Bool) (a b : List LexKind) → all_untold (told_before within a b) ≡ a
untold_before within [] b = refl
untold_before within (x ∷ a) b =
    ap (λ z. z ∷ all_untold (told_before (in_constraint within x) a b)) (untold_one within x (a ++ b)) ∙ ap (λ z. x ∷ z) (untold_before (in_constraint within x) a b)

-- what leads to steps does so whatever follows
leads_more : (a b : List LexKind) → leads_to_steps a ≡ true → leads_to_steps (a ++ b) ≡ true
leads_more [] b h = absurd (cc)
leads_more (RoundOpen ∷ a) b h = leads_more a b h
leads_more (x ∷ a) b h = h

leads_before : (a : List LexKind) (least : ℕ) (most : Option ℕ) → leads_to_steps (a ++ Range least most ∷ []) ≡ true → leads_to_steps a ≡ true
leads_before [] least most h = absurd (cc)
leads_before (RoundOpen ∷ a) least most h = leads_before a least most h
leads_before (x ∷ a) least most h = h

no_constraint_leads : (c : Constraint) → leads_to_steps (written c) ≡ true → ⊥
no_constraint_leads Any h = absurd (cc)
no_constraint_leads (Is f v) h = absurd (cc)
no_constraint_leads (Not' s r) h = absurd (cc)
no_constraint_leads (And' s r q t) h = absurd (cc)
no_constraint_leads (Or' s r q t) h = absurd (cc)

-- what is written reads back, whatever follows
abbrev AtomBack : List LexKind → Path → Type 0
AtomBack l p = (rest : List LexKind) → StepAtom (kinds_told false (l ++ rest)) p (kinds_told false rest)

abbrev PartBack : List LexKind → Path → Type 0
PartBack l p = (rest : List LexKind) → StepPart (kinds_told false (l ++ rest)) p (kinds_told false rest)

-- a bracket that leads to steps
opened : (l : List LexKind) (rest : List LexKind) → IsBalanced l → leads_to_steps (grouped l) ≡ true →
    kinds_told false (grouped l ++ rest) ≡ steps_open ∷ (told_before false l (RoundClose ∷ rest) ++ lexeme RoundClose ∷ kinds_told false rest)
opened l rest u h =
    let inner : List LexKind = (l ++ RoundClose ∷ []) ++ rest in
    ap (λ b. (if b then steps_open else lexeme RoundOpen) ∷ kinds_told false inner) (leads_more (l ++ RoundClose ∷ []) rest h)
    ∙ ap (λ z. steps_open ∷ kinds_told false z) (append_assoc l (RoundClose ∷ []) rest)
    ∙ ap (λ z. steps_open ∷ z) (told_append false l (RoundClose ∷ rest) ∙ ap (λ b. told_before false l (RoundClose ∷ rest) ++ kinds_told b (RoundClose ∷ rest)) u)

in_brackets : (l : List LexKind) (p : Path) → WholeBack l p → IsBalanced l → leads_to_steps (grouped l) ≡ true → AtomBack (grouped l) p
in_brackets l p w u h rest =
    let word : List Told = told_before false l (RoundClose ∷ rest) in
    let inner : Paths (all_untold word) p [] = subst (λ (z : List LexKind). Paths z p []) (append-nil l ∙ sym (untold_before false l (RoundClose ∷ rest))) (w []) in
    subst (λ (z : List Told). StepAtom z p (kinds_told false rest)) (sym (opened l rest u h)) (group word p (kinds_told false rest) inner)

along_back : (v : Option Value) → AtomBack (edge_written lexeme_kind.Along lexeme_kind.AnyAlong v) (path.Along v)
along_back None rest = step (lexeme_kind.AnyAlong ∷ []) _ _ (any_along [])
along_back (Some (Plain text)) rest = step (lexeme_kind.Along ∷ lexeme_kind.Quoted text ∷ []) _ _ (along (lexeme_kind.Quoted text) (Plain text) [] (label_back (Plain text)))
along_back (Some (value.Regex text)) rest = step (lexeme_kind.Along ∷ lexeme_kind.Regex text ∷ []) _ _ (along (lexeme_kind.Regex text) (value.Regex text) [] (label_back (value.Regex text)))

against_back : (v : Option Value) → AtomBack (edge_written lexeme_kind.Against lexeme_kind.AnyAgainst v) (path.Against v)
against_back None rest = step (lexeme_kind.AnyAgainst ∷ []) _ _ (any_against [])
against_back (Some (Plain text)) rest = step (lexeme_kind.Against ∷ lexeme_kind.Quoted text ∷ []) _ _ (against (lexeme_kind.Quoted text) (Plain text) [] (label_back (Plain text)))
against_back (Some (value.Regex text)) rest = step (lexeme_kind.Against ∷ lexeme_kind.Regex text ∷ []) _ _ (against (lexeme_kind.Regex text) (value.Regex text) [] (label_back (value.Regex text)))

atom_back : (p : Path) → IsWritablePath p → leads_to_steps (path_forms p).as_atom ≡ true → AtomBack (path_forms p).as_atom p
atom_back (path.Along v) w h = along_back v
atom_back (path.Against v) w h = against_back v
atom_back (path.Filter c) w h = absurd (no_constraint_leads c h)
atom_back (path.Seq' v row) w h = in_brackets (path_parts row) (path.Seq' v row) (back (path.Seq' v row) w).whole (balanced (path.Seq' v row)).whole h
atom_back (path.Alt' v row) w h = in_brackets (path_choices row) (path.Alt' v row) (back (path.Alt' v row) w).whole (balanced (path.Alt' v row)).whole h
atom_back (path.Repeat' v (more_of-Path p end_of-Path) least most) w h =
    let q : Path = path.Repeat' v (more_of-Path p end_of-Path) least most in
    in_brackets ((path_forms p).as_atom ++ Range least most ∷ []) q (back q w).whole (balanced q).whole h

part_once : (l : List LexKind) (p : Path) → AtomBack l p → PartBack l p
part_once l p u rest = once (kinds_told false (l ++ rest)) p (kinds_told false rest) (u rest)

with_quantifier : (l : List LexKind) (p : Path) (least : ℕ) (most : Option ℕ) → AtomBack l p → PartBack (l ++ Range least most ∷ []) (path.Repeat p least most)
with_quantifier l p least most u rest =
    subst (λ (z : List LexKind). StepPart (kinds_told false z) (path.Repeat p least most) (kinds_told false rest)) (sym (append_assoc l (Range least most ∷ []) rest))
    (repeated (kinds_told false (l ++ Range least most ∷ rest)) p (Range least most) least most (kinds_told false rest) (u (Range least most ∷ rest)) (range least most))

part_back : (p : Path) → IsWritablePath p → leads_to_steps (path_forms p).as_part ≡ true → PartBack (path_forms p).as_part p
unfolding hidden hidden-the_row-Path-1
part_back (path.Along v) w h = part_once _ (path.Along v) (along_back v)
part_back (path.Against v) w h = part_once _ (path.Against v) (against_back v)
part_back (path.Filter c) w h = absurd (no_constraint_leads c h)
part_back (path.Seq' v row) w h = part_once (grouped (path_parts row)) (path.Seq' v row) (atom_back (path.Seq' v row) w h)
part_back (path.Alt' v row) w h = part_once (grouped (path_choices row)) (path.Alt' v row) (atom_back (path.Alt' v row) w h)
part_back (path.Repeat' v (more_of-Path p end_of-Path) least most) w h =
    with_quantifier (path_forms p).as_atom p least most (atom_back p w (leads_before (path_forms p).as_atom least most h))

-- further parts behind one
parts_from : (n : Count) (row : Row_of-Path n) → AreWritablePaths row → AllLead row → (l : List LexKind) (p : Path) → PartBack l p → (rest : List LexKind) →
    StepParts (kinds_told false ((l ++ path_parts row) ++ rest)) (p ∷ items-the_row-Path n row) (kinds_told false rest)
parts_from n end_of-Path w h l p u rest = last _ p _ (subst (λ (z : List LexKind). StepPart (kinds_told false (z ++ rest)) p (kinds_told false rest)) (sym (append-nil l)) (u rest))
parts_from n (more_of-Path q row) w h l p u rest =
    let others : List LexKind = path_parts (more_of-Path q row) in
    more (kinds_told false ((l ++ others) ++ rest)) p (kinds_told false (others ++ rest)) (q ∷ items-the_row-Path _ row) (kinds_told false rest)
    (subst (λ (z : List LexKind). StepPart (kinds_told false z) p (kinds_told false (others ++ rest))) (sym (append_assoc l others rest)) (u (others ++ rest)))
    (parts_from _ row w.1 h.1 (path_forms q).as_part q (part_back q w.0 h.0) rest)

parts_back : (n : Count) (row : Row_of-Path n) → AreSomePaths row → AreWritablePaths row → AllLead row → (rest : List LexKind) →
    StepParts (kinds_told false (path_parts row ++ rest)) (items-the_row-Path n row) (kinds_told false rest)
parts_back n end_of-Path some w h rest = absurd some
parts_back n (more_of-Path p row) some w h rest = parts_from _ row w.1 h.1 (path_forms p).as_part p (part_back p w.0 h.0) rest

one_part : (l : List LexKind) (p : Path) → PartBack l p → (rest : List LexKind) → Steps (kinds_told false (l ++ rest)) p (kinds_told false rest)
one_part l p u rest = all (kinds_told false (l ++ rest)) (p ∷ []) (kinds_told false rest) (last (kinds_told false (l ++ rest)) p (kinds_told false rest) (u rest))

-- steps that are written out are steps for themselves, whatever follows
pub steps_read_back : StepsReadBack
steps_read_back (path.Along v) w rest = one_part (path_forms (path.Along v)).as_part (path.Along v) (part_back (path.Along v) w.0 w.1) rest
steps_read_back (path.Against v) w rest = one_part (path_forms (path.Against v)).as_part (path.Against v) (part_back (path.Against v) w.0 w.1) rest
steps_read_back (path.Filter c) w rest = absurd (no_constraint_leads c w.1)
steps_read_back (path.Seq' v row) w rest =
    subst (λ (z : Path). Steps (kinds_told false (path_parts row ++ rest)) z (kinds_told false rest)) (sequence_of _ row w.0.0 ∙ path_of_list (path.Seq' v row))
    (all (kinds_told false (path_parts row ++ rest)) (items-the_row-Path _ row) (kinds_told false rest) (parts_back _ row w.0.0 w.0.1 w.1 rest))
steps_read_back (path.Alt' v row) w rest = one_part (grouped (path_choices row)) (path.Alt' v row) (part_back (path.Alt' v row) w.0 w.1) rest
steps_read_back (path.Repeat' v (more_of-Path p end_of-Path) least most) w rest =
    let q : Path = path.Repeat' v (more_of-Path p end_of-Path) least most in
    one_part (path_forms q).as_part q (part_back q w.0 w.1) rest
