-- The places of a pattern's grammar, and the brackets that a pattern needs in each.
use Rattle.std.specs.Prelude.{List}
use Rattle.od_pattern.specs.declared.pattern.Constraint.{Constraint}
use Rattle.od_language.specs.declared.lexeme.LexKind.{LexKind}
use Rattle.od_language.specs.Grammar.{IsConstraint}
use Rattle.od_language.specs.Written.{grouped, IsWritable}

-- a pattern in the four places of its grammar: alone, as one of several choices, as one of several
-- parts one after another, and under a quantifier
pub record Forms : Type 0 where
  pub as_whole : List LexKind
  pub as_choice : List LexKind
  pub as_part : List LexKind
  pub as_atom : List LexKind

-- an atom stands anywhere
abbrev pub atom_form : List LexKind → Forms
atom_form l = record { as_whole = l; as_choice = l; as_part = l; as_atom = l }

-- what has a quantifier stands in brackets under another one
abbrev pub repeat_form : List LexKind → Forms
repeat_form l = record { as_whole = l; as_choice = l; as_part = l; as_atom = grouped l }

-- parts one after another stand in brackets as one part
abbrev pub sequence_form : List LexKind → Forms
sequence_form l =
    record { as_whole = l; as_choice = l; as_part = grouped l; as_atom = grouped l }

-- choices stand in brackets as one choice
abbrev pub alternation_form : List LexKind → Forms
alternation_form l =
    record { as_whole = l; as_choice = grouped l; as_part = grouped l; as_atom = grouped l }

-- each constraint that the grammar gives can be written: folding a norm twice is folding it once
abbrev pub ConstraintsAreWritable : Type 0
ConstraintsAreWritable =
    (l : List LexKind) (c : Constraint) (rest : List LexKind) → IsConstraint l c rest → IsWritable c
