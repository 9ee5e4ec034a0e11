-- Hops and their steps written out in lexemes.
use Rattle.std.specs.Prelude.{◌≡◌, Bool, true, false, List, [], ◌∷◌, ◌++◌}
use Rattle.od_pattern.specs.declared.pattern.Surface.{Surface}
use Rattle.od_pattern.specs.declared.path.Path.{Path, Row_of-Path, end_of-Path, more_of-Path}
use Rattle.od_pattern.specs.declared.path.Path.TheVariants.{Seq'}
use Rattle.od_pattern.specs.declared.rule.HopPart.{HopPart}
use Rattle.od_pattern.specs.declared.rule.Hop.{Hop}
use Rattle.od_language.specs.declared.lexeme.LexKind.{LexKind}
use Rattle.od_language.specs.declared.lexeme.LexKind.TheVariants.{Range, Along, Against, AnyAlong, AnyAgainst, Question, Star, Plus}
use Rattle.od_syntax.specs.Hops.{Steps, Hops}
use Rattle.od_syntax.specs.Sizes.{may_always}
use Rattle.od_syntax.specs.Told.{Told, lexeme, steps_open, leads_to_steps, in_constraint, told_of}
use Rattle.od_written.specs.Paths.{path_forms, IsWritablePath}
use Rattle.od_written.specs.Surfaces.{surface_forms, surface_written, IsWritableSurface}

-- the lexemes of steps: parts one after another without brackets, as in one choice of a path
abbrev pub steps_written : Path → List LexKind
steps_written p = (path_forms p).as_choice

-- steps and surfaces in turn
abbrev pub hop_parts_written : List HopPart → List LexKind
hop_parts_written [] = []
hop_parts_written (x ∷ more) =
    steps_written x.path ++ ((surface_forms x.surface).as_choice ++ hop_parts_written more)

-- a surface alone, or one with the parts behind it: then its choices stand in brackets
abbrev pub joined_written : Surface → List HopPart → List LexKind
joined_written first [] = surface_written first
joined_written first (x ∷ more) = (surface_forms first).as_choice ++ hop_parts_written (x ∷ more)

-- the lexemes of a hop
abbrev pub hop_written : Hop → List LexKind
hop_written hop = joined_written hop.first hop.rest

-- lexemes without their places, told apart, where a constraint is open before them or is not
abbrev pub kinds_told : Bool → List LexKind → List Told
kinds_told within [] = []
kinds_told within (x ∷ more) = told_of within x more ∷ kinds_told (in_constraint within x) more

-- each part begins, but for brackets, with an arrow
abbrev pub AllLead : {m : _} → Row_of-Path m → Type 0
AllLead end_of-Path = Unit {0}
AllLead (more_of-Path p rest) = (leads_to_steps (path_forms p).as_part ≡ true) × AllLead rest

-- the parts of steps do, whose brackets are told by that
abbrev pub Leads : Path → Type 0
Leads (Seq' v row) = AllLead row
Leads p = leads_to_steps (path_forms p).as_part ≡ true

-- steps that can be written
abbrev pub AreWritableSteps : Path → Type 0
AreWritableSteps p = IsWritablePath p × Leads p

-- the steps and the surfaces behind the first one can be written
abbrev pub AreWritableHopParts : List HopPart → Type 0
AreWritableHopParts [] = Unit {0}
AreWritableHopParts (x ∷ more) =
    AreWritableSteps x.path × IsWritableSurface x.surface × AreWritableHopParts more

-- a hop that can be written
abbrev pub IsWritableHop : Hop → Type 0
IsWritableHop hop = IsWritableSurface hop.first × AreWritableHopParts hop.rest

-- steps that are written out are a word of the grammar for themselves, whatever follows
abbrev pub StepsReadBack : Type 0
StepsReadBack =
    (p : Path) → AreWritableSteps p → (rest : List LexKind) →
    Steps (kinds_told false (steps_written p ++ rest)) p (kinds_told false rest)

-- a hop that is written out is a word of the grammar for itself, its brackets told apart
abbrev pub HopsReadBack : Type 0
HopsReadBack =
    (hop : Hop) → IsWritableHop hop → Hops may_always (kinds_told false (hop_written hop)) hop []

-- A lexeme with which steps go on: a quantifier, an arrow, or a bracket that opens steps.
abbrev pub goes_on_steps : Told → Bool
goes_on_steps steps_open = true
goes_on_steps (lexeme Question) = true
goes_on_steps (lexeme Star) = true
goes_on_steps (lexeme Plus) = true
goes_on_steps (lexeme (Range least most)) = true
goes_on_steps (lexeme Along) = true
goes_on_steps (lexeme Against) = true
goes_on_steps (lexeme AnyAlong) = true
goes_on_steps (lexeme AnyAgainst) = true
goes_on_steps x = false
