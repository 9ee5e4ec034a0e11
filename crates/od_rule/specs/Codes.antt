-- A rule made ready: programs of its surface patterns, and moves of its paths.
use Rattle.std.specs.Prelude.{◌≡◌, ℕ, ◌+◌, List, [], ◌∷◌, ◌++◌, length}
use Rattle.std.specs.List.{AllZip}
use Rattle.od_asked.specs.Asked.{asked_part, asked_path, asked_surface}
use Rattle.od_event.specs.Arguments.{argument_codes}
use Rattle.od_machine.specs.Found.{IsProgramOf}
use Rattle.od_pairing.specs.Hop.{part_codes}
use Rattle.od_pattern.specs.declared.pattern.Surface.{Surface}
use Rattle.od_pattern.specs.declared.rule.Body.{Body}
use Rattle.od_pattern.specs.declared.rule.Body.TheVariants.{Basic, Event}
use Rattle.od_pattern.specs.declared.rule.HopPart.{HopPart}
use Rattle.od_pattern.specs.declared.rule.Rule.{Rule}
use Rattle.od_reach.specs.declared.moves.Move.{Move}
use Rattle.od_rule.specs.declared.code.Placed.{Placed}
use Rattle.od_rule.specs.declared.code.RuleCode.{RuleCode}

-- the surfaces of further parts, each with the row at which what it asks begins
abbrev pub part_surfaces : ℕ → List HopPart → List (ℕ × Surface)
part_surfaces first [] = []
part_surfaces first (part ∷ parts) =
    (first + length (asked_path part.path), part.surface)
    ∷ part_surfaces (first + length (asked_part part)) parts

-- the surfaces of a body: those of a hop, or the trigger
abbrev pub body_surfaces : Body → List (ℕ × Surface)
body_surfaces (Basic h) = (0, h.first) ∷ part_surfaces (length (asked_surface h.first)) h.rest
body_surfaces (Event e) = (0, e.trigger) ∷ []

-- the moves of a body's paths: those of a hop, or of the arguments
abbrev pub body_codes : Body → List (List Move)
body_codes (Basic h) = part_codes (length (asked_surface h.first)) h.rest
body_codes (Event e) = argument_codes (length (asked_surface e.trigger)) e.arguments

-- a program is that of a surface, and has its row
abbrev pub IsPlaced : Placed → ℕ × Surface → Type 0
IsPlaced placed s = (placed.first ≡ s.0) × IsProgramOf placed.program s.1

-- whatever surfaces the programs were of, they are of these too, behind the others
abbrev pub GoOnWith : List Placed → List Placed → List (ℕ × Surface) → Type 0
GoOnWith old new surfaces =
    (before : List (ℕ × Surface)) → AllZip IsPlaced old before → AllZip IsPlaced new (before ++ surfaces)

-- programs and moves are those of a body
pub record IsCodeOf (body : Body) (code : RuleCode) : Type 0 where
  pub programs : AllZip IsPlaced code.programs (body_surfaces body)
  pub moves : code.moves ≡ body_codes body

-- the same of a rule
abbrev pub IsReadyRule : Rule → RuleCode → Type 0
IsReadyRule rule code = IsCodeOf rule.body code
