-- Texts of the lexemes of a surface or of a path are that surface, that path.
use Rattle.std.proofs.Common.{ℕ, List, [], ap, subst, append-nil}
use Rattle.od_pattern.specs.declared.pattern.Surface.{Surface}
use Rattle.od_pattern.specs.declared.path.Path.{Path}
use Rattle.od_language.specs.declared.lexeme.LexKind.{LexKind}
use Rattle.od_language.specs.Alphabet.{plain}
use Rattle.od_language.specs.Depth.{BreaksRule}
use Rattle.od_language.specs.FirstFault.{Keeps}
use Rattle.od_language.specs.Lexed.{lexed_from}
use Rattle.od_language.proofs.Constraints.Closing.{rule_at}
use Rattle.od_syntax.specs.PathMachine as path
use Rattle.od_syntax.specs.Paths.{Paths}
use Rattle.od_syntax.specs.Rules.{BreaksSurface}
use Rattle.od_syntax.specs.Sizes.{may_always}
use Rattle.od_syntax.specs.SurfaceMachine as surface
use Rattle.od_syntax.specs.Surfaces.{Surfaces}
use Rattle.od_syntax.specs.Texts.{stuck_at, IsSurface, IsPath}
use Rattle.od_syntax.specs.Verdicts.{path_start}
use Rattle.od_syntax.proofs.Paths.Closing.{reader}
use Rattle.od_syntax.proofs.Surfaces.Rules.{start, rule, surface_reader}
use Rattle.od_written.specs.Paths.{path_written, IsWritablePath}
use Rattle.od_written.specs.Surfaces.{surface_written, IsWritableSurface}
use Rattle.od_written.specs.Texts.{HasLexemes}
use Rattle.od_written.proofs.PathEnds.{path_word}
use Rattle.od_written.proofs.ReadBack.{read_to_end, ends_there}
use Rattle.od_written.proofs.Surfaces.{surfaces_read_back}

pub surface_word : (p : Surface) → IsWritableSurface p → Surfaces may_always (surface_written p) p []
surface_word p w = subst (λ (z : List LexKind). Surfaces may_always z p []) (append-nil (surface_written p)) (surfaces_read_back p w [])

pub surface_text : (at : ℕ) (cs : List ℕ) (p : Surface) → IsWritableSurface p → HasLexemes at cs (surface_written p) → Keeps BreaksSurface (surface_written p) → IsSurface at cs p
surface_text at cs p w h keeps = record {
  read = read_to_end plain (Surfaces may_always) BreaksSurface (lexed_from at cs).0 (surface_written p) p (surface_word p w) keeps
      (ends_there plain (Surfaces may_always) BreaksSurface start (surface.step may_always) rule surface.ended surface_reader (surface_written p)) h.lexemes;
  lexed = ap stuck_at h.no_fault;
}

pub path_text : (at : ℕ) (cs : List ℕ) (p : Path) → IsWritablePath p → HasLexemes at cs (path_written p) → Keeps (BreaksRule 0) (path_written p) → IsPath at cs p
path_text at cs p w h keeps = record {
  read = read_to_end plain Paths (BreaksRule 0) (lexed_from at cs).0 (path_written p) p (path_word p w) keeps
      (ends_there plain Paths (BreaksRule 0) path_start path.step (rule_at 0) path.ended (reader 0) (path_written p)) h.lexemes;
  lexed = ap stuck_at h.no_fault;
}
