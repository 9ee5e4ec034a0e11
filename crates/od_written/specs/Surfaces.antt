-- Surface patterns written out in lexemes.
use Rattle.std.specs.Prelude.{◌≡◌, Bool, true, false, List, [], ◌∷◌, ◌++◌}
use Rattle.od_pattern.specs.declared.pattern.Turns.{Turns}
use Rattle.od_pattern.specs.declared.pattern.Surface.{Surface, Row_of-Surface, end_of-Surface, more_of-Surface}
use Rattle.od_pattern.specs.declared.pattern.Surface.TheVariants.{Token, Label, Look, First, Last, Seq', Alt', Repeat', Capture'}
use Rattle.od_language.specs.declared.lexeme.LexKind.{LexKind}
use Rattle.od_language.specs.declared.lexeme.LexKind.TheVariants.{Word, NameOpen, AheadIs, AheadNot, BehindIs, BehindNot, Range, RoundClose, Or, At, Question, Caret, Dollar}
use Rattle.od_language.specs.Identifier.{is_identifier}
use Rattle.od_language.specs.Written.{written, IsWritable}
use Rattle.od_syntax.specs.Sizes.{may_always}
use Rattle.od_syntax.specs.Surfaces.{Surfaces}
use Rattle.od_written.specs.Forms.{Forms, ConstraintsAreWritable, atom_form, repeat_form, sequence_form, alternation_form}

-- the opening of a look at the token at the place, or at the one before it, which must fit or must not
abbrev pub look_opening : Bool → Bool → LexKind
look_opening true true = AheadIs
look_opening true false = AheadNot
look_opening false true = BehindIs
look_opening false false = BehindNot

-- the second `?`, where fewer turns are preferred
abbrev pub lazy_mark : Bool → List LexKind
lazy_mark true = Question ∷ []
lazy_mark false = []

-- a quantifier
abbrev pub turns_written : Turns → List LexKind
turns_written turns = Range turns.least turns.most ∷ lazy_mark turns.lazy

-- an opening, and what it encloses
abbrev pub enclosed : LexKind → List LexKind → List LexKind
enclosed opening l = opening ∷ (l ++ RoundClose ∷ [])

-- each surface with the brackets that it needs
abbrev mutual
  pub surface_forms : Surface → Forms
  surface_forms (Token c) = atom_form (written c)
  surface_forms (Label name) = atom_form (At ∷ Word name ∷ [])
  surface_forms (Look ahead positive c) =
      atom_form (enclosed (look_opening ahead positive) (written c))
  surface_forms First = atom_form (Caret ∷ [])
  surface_forms Last = atom_form (Dollar ∷ [])
  surface_forms (Seq' v row) = sequence_form (surface_parts row)
  surface_forms (Alt' v row) = alternation_form (surface_choices row)
  surface_forms (Repeat' v (more_of-Surface p end_of-Surface) turns) =
      repeat_form ((surface_forms p).as_atom ++ turns_written turns)
  surface_forms (Capture' name v (more_of-Surface p end_of-Surface)) =
      atom_form (enclosed (NameOpen name) (surface_forms p).as_whole)

  -- one after another
  pub surface_parts : {m : _} → Row_of-Surface m → List LexKind
  surface_parts end_of-Surface = []
  surface_parts (more_of-Surface p rest) = (surface_forms p).as_part ++ surface_parts rest

  -- with a `|` between each two
  pub surface_choices : {m : _} → Row_of-Surface m → List LexKind
  surface_choices end_of-Surface = []
  surface_choices (more_of-Surface p rest) =
      (surface_forms p).as_choice ++ other_surface_choices rest

  -- each behind a `|`
  pub other_surface_choices : {m : _} → Row_of-Surface m → List LexKind
  other_surface_choices end_of-Surface = []
  other_surface_choices (more_of-Surface p rest) =
      Or ∷ ((surface_forms p).as_choice ++ other_surface_choices rest)

-- the lexemes of a surface
abbrev pub surface_written : Surface → List LexKind
surface_written p = (surface_forms p).as_whole

-- two surfaces or more
abbrev pub AreSomeSurfaces : {m : _} → Row_of-Surface m → Type 0
AreSomeSurfaces end_of-Surface = ⊥
AreSomeSurfaces (more_of-Surface p end_of-Surface) = ⊥
AreSomeSurfaces (more_of-Surface p (more_of-Surface q rest)) = Unit {0}

-- A surface that can be written: of parts one after another there are two at least, and of choices;
-- labels are identifiers, and the constraints can be written.
abbrev mutual
  pub IsWritableSurface : Surface → Type 0
  IsWritableSurface (Token c) = IsWritable c
  IsWritableSurface (Label name) = is_identifier name ≡ true
  IsWritableSurface (Look ahead positive c) = IsWritable c
  IsWritableSurface First = Unit {0}
  IsWritableSurface Last = Unit {0}
  IsWritableSurface (Seq' v row) = AreSomeSurfaces row × AreWritableSurfaces row
  IsWritableSurface (Alt' v row) = AreSomeSurfaces row × AreWritableSurfaces row
  IsWritableSurface (Repeat' v (more_of-Surface p end_of-Surface) turns) = IsWritableSurface p
  IsWritableSurface (Capture' name v (more_of-Surface p end_of-Surface)) = IsWritableSurface p

  -- each of them
  pub AreWritableSurfaces : {m : _} → Row_of-Surface m → Type 0
  AreWritableSurfaces end_of-Surface = Unit {0}
  AreWritableSurfaces (more_of-Surface p rest) = IsWritableSurface p × AreWritableSurfaces rest

-- a surface that is written out is a word of the grammar for itself, whatever follows
abbrev pub SurfacesReadBack : Type 0
SurfacesReadBack =
    (p : Surface) → IsWritableSurface p → (rest : List LexKind) →
    Surfaces may_always (surface_written p ++ rest) p rest

-- each surface that the grammar gives can be written, where each constraint can that it gives
abbrev pub SurfacesAreWritable : Type 0
SurfacesAreWritable =
    ConstraintsAreWritable → (l : List LexKind) (p : Surface) (rest : List LexKind) →
    Surfaces may_always l p rest → IsWritableSurface p
