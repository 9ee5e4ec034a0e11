-- Surface patterns, paths and hops as whole texts: the value, or the first fault in the order of the
-- text.
use Rattle.std.specs.Prelude.{ℕ, List, Option, Some, None}
use Rattle.od_pattern.specs.declared.pattern.Surface.{Surface}
use Rattle.od_pattern.specs.declared.path.Path.{Path}
use Rattle.od_pattern.specs.declared.rule.Hop.{Hop}
use Rattle.od_language.specs.declared.lexeme.Miss.{Miss}
use Rattle.od_language.specs.declared.pattern_fault.PatternKind.{PatternKind}
use Rattle.od_language.specs.Alphabet.{plain}
use Rattle.od_language.specs.Depth.{BreaksRule}
use Rattle.od_language.specs.Lexed.{lexed_from}
use Rattle.od_language.specs.Whole.{IsWhole, IsWholeFault, IsSmall, IsFaultOrBig}
use Rattle.od_syntax.specs.Hops.{Hops, BreaksHop}
use Rattle.od_syntax.specs.Paths.{Paths}
use Rattle.od_syntax.specs.Rules.{BreaksSurface}
use Rattle.od_syntax.specs.Sizes.{may_always, surface_size, hop_size}
use Rattle.od_syntax.specs.Surfaces.{Surfaces}
use Rattle.od_syntax.specs.Told.{told_apart, told}

-- the place of the lexer's fault
abbrev pub stuck_at : Option (ℕ × Miss) → Option ℕ
stuck_at None = None
stuck_at (Some fault) = Some fault.0

module _ (at : ℕ) (cs : List ℕ) where
  -- characters that begin at a place are a surface, whatever its size
  abbrev pub IsSurface : Surface → Type 0
  IsSurface =
      IsWhole plain (Surfaces may_always) BreaksSurface (lexed_from at cs).0 (stuck_at (lexed_from at cs).1)

  -- their first fault
  abbrev pub IsSurfaceFault : ℕ → PatternKind → Type 0
  IsSurfaceFault =
      IsWholeFault plain (Surfaces may_always) BreaksSurface (lexed_from at cs).0 (stuck_at (lexed_from at cs).1)

  -- the same of a path
  abbrev pub IsPath : Path → Type 0
  IsPath = IsWhole plain Paths (BreaksRule 0) (lexed_from at cs).0 (stuck_at (lexed_from at cs).1)

  abbrev pub IsPathFault : ℕ → PatternKind → Type 0
  IsPathFault =
      IsWholeFault plain Paths (BreaksRule 0) (lexed_from at cs).0 (stuck_at (lexed_from at cs).1)

  -- the same of a hop
  abbrev pub IsHop : Hop → Type 0
  IsHop =
      IsWhole told_apart (Hops may_always) BreaksHop (told (lexed_from at cs).0) (stuck_at (lexed_from at cs).1)

  abbrev pub IsHopFault : ℕ → PatternKind → Type 0
  IsHopFault =
      IsWholeFault told_apart (Hops may_always) BreaksHop (told (lexed_from at cs).0) (stuck_at (lexed_from at cs).1)

-- a text is a surface pattern
abbrev pub IsSurfaceText : List ℕ → Surface → Type 0
IsSurfaceText cs = IsSmall (IsSurface 0 cs) surface_size

-- the first fault of a text that is none
abbrev pub IsSurfaceTextFault : List ℕ → ℕ → PatternKind → Type 0
IsSurfaceTextFault cs = IsFaultOrBig (IsSurface 0 cs) (IsSurfaceFault 0 cs) surface_size

-- a text is a hop
abbrev pub IsHopText : List ℕ → Hop → Type 0
IsHopText cs = IsSmall (IsHop 0 cs) hop_size

-- the first fault of a text that is none
abbrev pub IsHopTextFault : List ℕ → ℕ → PatternKind → Type 0
IsHopTextFault cs = IsFaultOrBig (IsHop 0 cs) (IsHopFault 0 cs) hop_size
