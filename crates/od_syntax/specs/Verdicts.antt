-- Surface patterns and paths as values of their texts, or the first fault.
use Rattle.std.specs.Prelude.{ℕ, List, []}
use Rattle.od_pattern.specs.declared.pattern.Surface.{Surface}
use Rattle.od_pattern.specs.declared.path.Path.{Path}
use Rattle.od_language.specs.declared.lexeme.LexKind.{LexKind}
use Rattle.od_language.specs.Alphabet.{plain}
use Rattle.od_language.specs.Depth.{broken_rule, depth_after}
use Rattle.od_language.specs.Lexed.{lexed_from}
use Rattle.od_language.specs.Machine.{Rule, run}
use Rattle.od_language.specs.Narrower.{rule_between}
use Rattle.od_language.specs.WholeRuns.{Verdict, to_the_end, before_stuck, sized, IsVerdict}
use Rattle.od_syntax.specs.PathMachine as path
use Rattle.od_syntax.specs.Rules.{bad_range, capture_or_own}
use Rattle.od_syntax.specs.Sizes.{may_repeat, may_always, surface_size}
use Rattle.od_syntax.specs.SurfaceMachine as surface
use Rattle.od_syntax.specs.Texts.{stuck_at, IsSurface, IsSurfaceFault, IsPath, IsPathFault, IsSurfaceText, IsSurfaceTextFault}

-- where the machine of surfaces begins, and that of paths
abbrev pub surface_start : surface.State
surface_start = surface.atom [] [] surface.top

abbrev pub path_start : path.State
path_start = path.atom [] [] path.top

-- the rule that a lexeme of a surface breaks
abbrev pub surface_rule : Rule LexKind
surface_rule =
    rule_between surface_start (surface.step may_repeat) bad_range capture_or_own (surface.repeat_rule may_repeat)

-- the rule that a lexeme of a path breaks
abbrev pub path_rule : Rule LexKind
path_rule front x = broken_rule (depth_after 0 front) x

module _ (at : ℕ) (cs : List ℕ) where
  -- what characters that begin at a place are read as
  abbrev pub surface_at : Verdict Surface
  surface_at = before_stuck (stuck_at (lexed_from at cs).1)
      (to_the_end plain (run plain (surface.step may_always) surface_rule surface.ended [] surface_start (lexed_from at cs).0))

  abbrev pub path_at : Verdict Path
  path_at = before_stuck (stuck_at (lexed_from at cs).1)
      (to_the_end plain (run plain path.step path_rule path.ended [] path_start (lexed_from at cs).0))

-- the surface pattern of a text, or its first fault
abbrev pub surface_of : List ℕ → Verdict Surface
surface_of cs = sized surface_size (surface_at 0 cs)

-- characters at a place, and texts, have exactly the verdict that is computed
abbrev pub SurfacesAreComputed : Type 0
SurfacesAreComputed =
    (at : ℕ) (cs : List ℕ) → IsVerdict (IsSurface at cs) (IsSurfaceFault at cs) (surface_at at cs)

abbrev pub SurfaceTextsAreComputed : Type 0
SurfaceTextsAreComputed =
    (cs : List ℕ) → IsVerdict (IsSurfaceText cs) (IsSurfaceTextFault cs) (surface_of cs)

abbrev pub PathsAreComputed : Type 0
PathsAreComputed = (at : ℕ) (cs : List ℕ) → IsVerdict (IsPath at cs) (IsPathFault at cs) (path_at at cs)
