-- Paths written out in lexemes.
use Rattle.std.specs.Prelude.{Bool, true, false, List, [], ◌∷◌, ◌++◌, Option, Some, None}
use Rattle.od_pattern.specs.declared.pattern.Value.{Value}
use Rattle.od_pattern.specs.declared.path.Path.{Path, Row_of-Path, end_of-Path, more_of-Path}
use Rattle.od_pattern.specs.declared.path.Path.TheVariants.{Along, Against, Filter, Seq', Alt', Repeat'}
use Rattle.od_language.specs.declared.lexeme.LexKind.{LexKind}
use Rattle.od_language.specs.declared.lexeme.LexKind.TheVariants.{Or, AnyAlong, AnyAgainst}
use Rattle.od_language.specs.declared.lexeme.LexKind.TheVariants as lexeme
use Rattle.od_language.specs.Written.{value_written, written, IsWritable}
use Rattle.od_syntax.specs.Paths.{Paths}
use Rattle.od_written.specs.Forms.{Forms, ConstraintsAreWritable, atom_form, repeat_form, sequence_form, alternation_form}

-- an arrow and its label, or the arrow of any edge
abbrev pub edge_written : LexKind → LexKind → Option Value → List LexKind
edge_written arrow any None = any ∷ []
edge_written arrow any (Some label) = arrow ∷ value_written label ∷ []

-- each path with the brackets that it needs
abbrev mutual
  pub path_forms : Path → Forms
  path_forms (Along label) = atom_form (edge_written lexeme.Along AnyAlong label)
  path_forms (Against label) = atom_form (edge_written lexeme.Against AnyAgainst label)
  path_forms (Filter c) = atom_form (written c)
  path_forms (Seq' v row) = sequence_form (path_parts row)
  path_forms (Alt' v row) = alternation_form (path_choices row)
  path_forms (Repeat' v (more_of-Path p end_of-Path) least most) =
      repeat_form ((path_forms p).as_atom ++ lexeme.Range least most ∷ [])

  -- one after another
  pub path_parts : {m : _} → Row_of-Path m → List LexKind
  path_parts end_of-Path = []
  path_parts (more_of-Path p rest) = (path_forms p).as_part ++ path_parts rest

  -- with a `|` between each two
  pub path_choices : {m : _} → Row_of-Path m → List LexKind
  path_choices end_of-Path = []
  path_choices (more_of-Path p rest) = (path_forms p).as_choice ++ other_path_choices rest

  -- each behind a `|`
  pub other_path_choices : {m : _} → Row_of-Path m → List LexKind
  other_path_choices end_of-Path = []
  other_path_choices (more_of-Path p rest) =
      Or ∷ ((path_forms p).as_choice ++ other_path_choices rest)

-- the lexemes of a path
abbrev pub path_written : Path → List LexKind
path_written p = (path_forms p).as_whole

-- two paths or more
abbrev pub AreSomePaths : {m : _} → Row_of-Path m → Type 0
AreSomePaths end_of-Path = ⊥
AreSomePaths (more_of-Path p end_of-Path) = ⊥
AreSomePaths (more_of-Path p (more_of-Path q rest)) = Unit {0}

-- A path that can be written: of parts one after another there are two at least, and of choices;
-- the constraints can be written.
abbrev mutual
  pub IsWritablePath : Path → Type 0
  IsWritablePath (Along label) = Unit {0}
  IsWritablePath (Against label) = Unit {0}
  IsWritablePath (Filter c) = IsWritable c
  IsWritablePath (Seq' v row) = AreSomePaths row × AreWritablePaths row
  IsWritablePath (Alt' v row) = AreSomePaths row × AreWritablePaths row
  IsWritablePath (Repeat' v (more_of-Path p end_of-Path) least most) = IsWritablePath p

  -- each of them
  pub AreWritablePaths : {m : _} → Row_of-Path m → Type 0
  AreWritablePaths end_of-Path = Unit {0}
  AreWritablePaths (more_of-Path p rest) = IsWritablePath p × AreWritablePaths rest

-- a path that is written out is a word of the grammar for itself, whatever follows
abbrev pub PathsReadBack : Type 0
PathsReadBack =
    (p : Path) → IsWritablePath p → (rest : List LexKind) → Paths (path_written p ++ rest) p rest

-- each path that the grammar gives can be written, where each constraint can that it gives
abbrev pub PathsAreWritable : Type 0
PathsAreWritable =
    ConstraintsAreWritable → (l : List LexKind) (p : Path) (rest : List LexKind) →
    Paths l p rest → IsWritablePath p

-- A lexeme with which a path goes on: a quantifier, an atom's first, or a `|`.
abbrev pub goes_on_path : LexKind → Bool
goes_on_path lexeme.Question = true
goes_on_path lexeme.Star = true
goes_on_path lexeme.Plus = true
goes_on_path (lexeme.Range least most) = true
goes_on_path lexeme.Along = true
goes_on_path lexeme.Against = true
goes_on_path AnyAlong = true
goes_on_path AnyAgainst = true
goes_on_path lexeme.SquareOpen = true
goes_on_path lexeme.RoundOpen = true
goes_on_path Or = true
goes_on_path x = false
