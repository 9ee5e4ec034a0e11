-- The computed verdicts are those of the definitions.
use Rattle.std.proofs.Common.{ℕ, List}
use Rattle.od_language.specs.Alphabet.{plain, HasOneEnd}
use Rattle.od_language.specs.Depth.{BreaksRule}
use Rattle.od_language.specs.Lexed.{lexed_from}
use Rattle.od_language.proofs.Lexing.Readings.{computed, ends_once}
use Rattle.od_language.proofs.WholeRuns.{whole_verdict, sized_verdict}
use Rattle.od_syntax.specs.PathMachine as path
use Rattle.od_syntax.specs.Paths.{Paths}
use Rattle.od_syntax.specs.Rules.{BreaksSurface}
use Rattle.od_syntax.specs.Sizes.{may_always, surface_size}
use Rattle.od_syntax.specs.SurfaceMachine as surface
use Rattle.od_syntax.specs.Surfaces.{Surfaces}
use Rattle.od_syntax.specs.Texts.{stuck_at}
use Rattle.od_syntax.specs.Verdicts.{surface_start, path_start, surface_rule, path_rule, SurfacesAreComputed, SurfaceTextsAreComputed, PathsAreComputed}
use Rattle.od_syntax.proofs.Paths.Closing as paths
use Rattle.od_syntax.proofs.Surfaces.Rules.{surface_reader}

lexed_once : (at : ℕ) (cs : List ℕ) → HasOneEnd plain (lexed_from at cs).0
lexed_once at cs = ends_once at cs (lexed_from at cs).0 (lexed_from at cs).1 (computed at cs)

pub surfaces_are_computed : SurfacesAreComputed
surfaces_are_computed at cs = whole_verdict plain (Surfaces may_always) BreaksSurface surface_start (surface.step may_always) surface_rule surface.ended
    surface_reader (lexed_from at cs).0 (lexed_once at cs) (stuck_at (lexed_from at cs).1)

pub surface_texts_are_computed : SurfaceTextsAreComputed
surface_texts_are_computed cs = sized_verdict plain (Surfaces may_always) BreaksSurface surface_start (surface.step may_always) surface_rule surface.ended
    surface_reader (lexed_from 0 cs).0 (lexed_once 0 cs) (stuck_at (lexed_from 0 cs).1) surface_size

pub paths_are_computed : PathsAreComputed
paths_are_computed at cs = whole_verdict plain Paths (BreaksRule 0) path_start path.step path_rule path.ended
    (paths.reader 0) (lexed_from at cs).0 (lexed_once at cs) (stuck_at (lexed_from at cs).1)
