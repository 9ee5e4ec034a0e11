-- In surfaces that are written out no bracket opens steps.
use Rattle.std.proofs.Common.{◌≡◌, Bool, true, false, if◌then◌else◌, List, [], ◌∷◌, ◌++◌, refl, sym, ◌∙◌, ap, subst, append_assoc, append-nil}
use mathlib.Core.Former.{Count}
use Rattle.od_pattern.specs.declared.pattern.Value.{Value}
use Rattle.od_pattern.specs.declared.pattern.Value.TheVariants.{Plain}
use Rattle.od_pattern.specs.declared.pattern.Value.TheVariants as value
use Rattle.od_pattern.specs.declared.pattern.Constraint.{Constraint, end_of-Constraint, more_of-Constraint}
use Rattle.od_pattern.specs.declared.pattern.Constraint.TheVariants.{Any, Is, Not', And', Or'}
use Rattle.od_pattern.specs.declared.pattern.Surface as surface
use Rattle.od_pattern.specs.declared.pattern.Surface.{Surface, Row_of-Surface, end_of-Surface, more_of-Surface}
use Rattle.od_language.specs.declared.lexeme.LexKind.{LexKind}
use Rattle.od_language.specs.declared.lexeme.LexKind.TheVariants.{Word, NameOpen, Range, SquareOpen, SquareClose, RoundOpen, RoundClose, And, Or, Not, Equal}
use Rattle.od_language.specs.Fields.{field_name}
use Rattle.od_language.specs.Written.{value_written, written, grouped}
use Rattle.od_language.specs.Written as constraint_forms
use Rattle.od_syntax.specs.Told.{Told, lexeme, steps_open, leads_to_steps, as_told}
use Rattle.od_written.specs.Forms.{Forms, atom_form, repeat_form, sequence_form, alternation_form}
use Rattle.od_written.specs.Hops.{kinds_told}
use Rattle.od_written.specs.Surfaces.{look_opening, lazy_mark, turns_written, enclosed, surface_forms, surface_parts, surface_choices, other_surface_choices, AreSomeSurfaces, IsWritableSurface, AreWritableSurfaces}

pub as_told_append : (a b : List LexKind) → as_told (a ++ b) ≡ as_told a ++ as_told b
as_told_append [] b = refl
as_told_append (x ∷ a) b = ap (λ z. lexeme x ∷ z) (as_told_append a b)

-- lexemes are told as they stand, where a constraint is open before and behind them
abbrev StandsInside : List LexKind → Type 0
StandsInside l = (rest : List LexKind) → kinds_told true (l ++ rest) ≡ as_told l ++ kinds_told true rest

-- the same outside constraints
abbrev pub Stands : List LexKind → Type 0
Stands l = (rest : List LexKind) → kinds_told false (l ++ rest) ≡ as_told l ++ kinds_told false rest

module _ (tell : List LexKind → List Told) where
  abbrev Told_by : List LexKind → Type 0
  Told_by l = (rest : List LexKind) → tell (l ++ rest) ≡ as_told l ++ tell rest

  both_told : (a b : List LexKind) → Told_by a → Told_by b → Told_by (a ++ b)
  both_told a b u v rest =
      ap tell (append_assoc a b rest) ∙ u (b ++ rest) ∙ ap (λ z. as_told a ++ z) (v rest) ∙ sym (append_assoc (as_told a) (as_told b) (tell rest))
      ∙ ap (λ z. z ++ tell rest) (sym (as_told_append a b))

value_inside : (v : Value) → StandsInside (value_written v ∷ [])
value_inside (Plain text) rest = refl
value_inside (value.Regex text) rest = refl

-- behind a lexeme that is told as it stands
behind_one : (x : LexKind) (l : List LexKind) → ((m : List LexKind) → kinds_told true (x ∷ m) ≡ lexeme x ∷ kinds_told true m) → StandsInside l → StandsInside (x ∷ l)
behind_one x l one u rest = one (l ++ rest) ∙ ap (λ z. lexeme x ∷ z) (u rest)

grouped_inside : (l : List LexKind) → StandsInside l → StandsInside (grouped l)
grouped_inside l u = behind_one RoundOpen (l ++ RoundClose ∷ []) (λ m. refl) (both_told (kinds_told true) l (RoundClose ∷ []) u (λ rest. refl))

abbrev FormsInside : constraint_forms.Forms → Type 0
FormsInside f = StandsInside f.as_unary × StandsInside f.as_and × StandsInside f.as_or

constraint_inside : (c : Constraint) → FormsInside (constraint_forms.forms c)
constraint_inside Any = (λ rest. refl, λ rest. refl, λ rest. refl)
constraint_inside (Is f v) =
    let u = behind_one (Word (field_name f)) (Equal ∷ value_written v ∷ []) (λ m. refl) (behind_one Equal (value_written v ∷ []) (λ m. refl) (value_inside v)) in (u, u, u)
constraint_inside (Not' s (more_of-Constraint c end_of-Constraint)) =
    let u = behind_one Not (constraint_forms.forms c).as_unary (λ m. refl) (constraint_inside c).0 in (u, u, u)
constraint_inside (And' s (more_of-Constraint a end_of-Constraint) q (more_of-Constraint b end_of-Constraint)) =
    let f = constraint_forms.forms a in
    let g = constraint_forms.forms b in
    let u = both_told (kinds_told true) f.as_and (And ∷ g.as_unary) (constraint_inside a).1 (behind_one And g.as_unary (λ m. refl) (constraint_inside b).0) in
    (grouped_inside (f.as_and ++ And ∷ g.as_unary) u, u, u)
constraint_inside (Or' s (more_of-Constraint a end_of-Constraint) q (more_of-Constraint b end_of-Constraint)) =
    let f = constraint_forms.forms a in
    let g = constraint_forms.forms b in
    let u = both_told (kinds_told true) f.as_or (Or ∷ g.as_and) (constraint_inside a).2 (behind_one Or g.as_and (λ m. refl) (constraint_inside b).1) in
    (grouped_inside (f.as_or ++ Or ∷ g.as_and) u, grouped_inside (f.as_or ++ Or ∷ g.as_and) u, u)

-- lexemes that are told as they stand, and do not lead to steps
pub record IsPlain (l : List LexKind) : Type 0 where
  pub leads : (rest : List LexKind) → leads_to_steps (l ++ rest) ≡ false
  pub stands : Stands l

up_to_square : (l : List LexKind) → StandsInside l → Stands (SquareOpen ∷ (l ++ SquareClose ∷ []))
up_to_square l u rest = ap (λ z. lexeme SquareOpen ∷ z)
    (ap (kinds_told true) (append_assoc l (SquareClose ∷ []) rest) ∙ u (SquareClose ∷ rest) ∙ sym (append_assoc (as_told l) (lexeme SquareClose ∷ []) (kinds_told false rest))
    ∙ ap (λ z. z ++ kinds_told false rest) (sym (as_told_append l (SquareClose ∷ []))))

in_squares : (l : List LexKind) → StandsInside l → IsPlain (SquareOpen ∷ (l ++ SquareClose ∷ []))
in_squares l u = record { leads = λ rest. refl; stands = up_to_square l u }

pub plain_constraint : (c : Constraint) → IsPlain (written c)
plain_constraint Any = record { leads = λ rest. refl; stands = λ rest. refl }
plain_constraint (Is f v) = in_squares (constraint_forms.forms (Is f v)).as_or (constraint_inside (Is f v)).2
plain_constraint (Not' s r) = in_squares (constraint_forms.forms (Not' s r)).as_or (constraint_inside (Not' s r)).2
plain_constraint (And' s r q t) = in_squares (constraint_forms.forms (And' s r q t)).as_or (constraint_inside (And' s r q t)).2
plain_constraint (Or' s r q t) = in_squares (constraint_forms.forms (Or' s r q t)).as_or (constraint_inside (Or' s r q t)).2

plain_then : (a b : List LexKind) → IsPlain a → Stands b → IsPlain (a ++ b)
plain_then a b u v = record {
  leads = λ rest. ap leads_to_steps (append_assoc a b rest) ∙ u.leads (b ++ rest);
  stands = both_told (kinds_told false) a b u.stands v;
}

closed : (l : List LexKind) → IsPlain l → Stands (l ++ RoundClose ∷ [])
closed l u = both_told (kinds_told false) l (RoundClose ∷ []) u.stands (λ rest. refl)

leads_closed : (l rest : List LexKind) → IsPlain l → leads_to_steps ((l ++ RoundClose ∷ []) ++ rest) ≡ false
leads_closed l rest u = ap leads_to_steps (append_assoc l (RoundClose ∷ []) rest) ∙ u.leads (RoundClose ∷ rest)

pub plain_grouped : (l : List LexKind) → IsPlain l → IsPlain (grouped l)
plain_grouped l u = record {
  leads = λ rest. leads_closed l rest u;
  stands = λ rest. ap (λ b. (if b then steps_open else lexeme RoundOpen) ∷ kinds_told false ((l ++ RoundClose ∷ []) ++ rest)) (leads_closed l rest u)
      ∙ ap (λ z. lexeme RoundOpen ∷ z) (closed l u rest);
}

plain_enclosed : (x : LexKind) (l : List LexKind) → ((m : List LexKind) → leads_to_steps (x ∷ m) ≡ false) → ((m : List LexKind) → kinds_told false (x ∷ m) ≡ lexeme x ∷ kinds_told false m) → IsPlain l → IsPlain (enclosed x l)
plain_enclosed x l h one u = record {
  leads = λ rest. h ((l ++ RoundClose ∷ []) ++ rest);
  stands = λ rest. one ((l ++ RoundClose ∷ []) ++ rest) ∙ ap (λ z. lexeme x ∷ z) (closed l u rest);
}

plain_look : (here positive : Bool) (l : List LexKind) → IsPlain l → IsPlain (enclosed (look_opening here positive) l)
plain_look true true l = plain_enclosed _ l (λ m. refl) (λ m. refl)
plain_look true false l = plain_enclosed _ l (λ m. refl) (λ m. refl)
plain_look false true l = plain_enclosed _ l (λ m. refl) (λ m. refl)
plain_look false false l = plain_enclosed _ l (λ m. refl) (λ m. refl)

stands_lazy : (b : Bool) → Stands (lazy_mark b)
stands_lazy true rest = refl
stands_lazy false rest = refl

-- all four forms
pub record ArePlain (f : Forms) : Type 0 where
  pub whole : IsPlain f.as_whole
  pub choice : IsPlain f.as_choice
  pub part : IsPlain f.as_part
  pub atom : IsPlain f.as_atom

plain_atom : (l : List LexKind) → IsPlain l → ArePlain (atom_form l)
plain_atom l u = record { whole = u; choice = u; part = u; atom = u }

plain_repeat : (l : List LexKind) → IsPlain l → ArePlain (repeat_form l)
plain_repeat l u = record { whole = u; choice = u; part = u; atom = plain_grouped l u }

plain_sequence : (l : List LexKind) → IsPlain l → ArePlain (sequence_form l)
plain_sequence l u = record { whole = u; choice = u; part = plain_grouped l u; atom = plain_grouped l u }

plain_alternation : (l : List LexKind) → IsPlain l → ArePlain (alternation_form l)
plain_alternation l u = let v = plain_grouped l u in record { whole = u; choice = v; part = v; atom = v }

mutual
  pub plain : (p : Surface) → IsWritableSurface p → ArePlain (surface_forms p)
  plain (surface.Token c) w = plain_atom (written c) (plain_constraint c)
  plain (surface.Label name) w = plain_atom _ (record { leads = λ rest. refl; stands = λ rest. refl })
  plain (surface.Look here positive c) w = plain_atom _ (plain_look here positive (written c) (plain_constraint c))
  plain surface.First w = plain_atom _ (record { leads = λ rest. refl; stands = λ rest. refl })
  plain surface.Last w = plain_atom _ (record { leads = λ rest. refl; stands = λ rest. refl })
  plain (surface.Seq' v row) w = plain_sequence (surface_parts row) (plain_parts _ row w.0 w.1)
  plain (surface.Alt' v row) w = plain_alternation (surface_choices row) (plain_choices _ row w.0 w.1)
  plain (surface.Repeat' v (more_of-Surface p end_of-Surface) turns) w =
      plain_repeat ((surface_forms p).as_atom ++ turns_written turns)
      (plain_then (surface_forms p).as_atom (turns_written turns) (plain p w).atom (λ rest. ap (λ z. lexeme (Range turns.least turns.most) ∷ z) (stands_lazy turns.lazy rest)))
  plain (surface.Capture' name v (more_of-Surface p end_of-Surface)) w =
      plain_atom (enclosed (NameOpen name) (surface_forms p).as_whole) (plain_enclosed (NameOpen name) (surface_forms p).as_whole (λ m. refl) (λ m. refl) (plain p w).whole)

  plain_parts : (n : Count) (row : Row_of-Surface n) → AreSomeSurfaces row → AreWritableSurfaces row → IsPlain (surface_parts row)
  plain_parts n end_of-Surface h w = absurd h
  plain_parts n (more_of-Surface p row) h w = plain_parts_from _ row w.1 (surface_forms p).as_part (plain p w.0).part

  plain_parts_from : (n : Count) (row : Row_of-Surface n) → AreWritableSurfaces row → (l : List LexKind) → IsPlain l → IsPlain (l ++ surface_parts row)
  plain_parts_from n end_of-Surface w l u = subst IsPlain (sym (append-nil l)) u
  plain_parts_from n (more_of-Surface q row) w l u =
      plain_then l (surface_parts (more_of-Surface q row)) u (plain_parts_from _ row w.1 (surface_forms q).as_part (plain q w.0).part).stands

  plain_choices : (n : Count) (row : Row_of-Surface n) → AreSomeSurfaces row → AreWritableSurfaces row → IsPlain (surface_choices row)
  plain_choices n end_of-Surface h w = absurd h
  plain_choices n (more_of-Surface p row) h w = plain_choices_from _ row w.1 (surface_forms p).as_choice (plain p w.0).choice

  plain_choices_from : (n : Count) (row : Row_of-Surface n) → AreWritableSurfaces row → (l : List LexKind) → IsPlain l → IsPlain (l ++ other_surface_choices row)
  plain_choices_from n end_of-Surface w l u = subst IsPlain (sym (append-nil l)) u
  plain_choices_from n (more_of-Surface q row) w l u =
      let others = plain_choices_from _ row w.1 (surface_forms q).as_choice (plain q w.0).choice in
      plain_then l (other_surface_choices (more_of-Surface q row)) u (λ rest. ap (λ z. lexeme Or ∷ z) (others.stands rest))
