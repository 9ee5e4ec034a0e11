-- A parser's answer beside the lexer's fault.
use Rattle.std.specs.Prelude.{ℕ, Option, Some, None, Result, Ok, Err, nat_lt, if◌then◌else◌}
use Rattle.od_language.specs.declared.pattern_fault.PatternKind.TheVariants as kind
use Rattle.od_language.specs.declared.pattern_fault.PatternFault.{PatternFault}
use Rattle.od_language.specs.declared.pattern_fault.PatternFault.TheVariants as fault

-- an answer of the parser, unless the lexer has a fault at this place that comes first
abbrev pub unless_stuck : {A : Type 0} → Option ℕ → Result A PatternFault → Result A PatternFault
unless_stuck None answer = answer
unless_stuck (Some place) (Ok x) = Err (fault.Bad place kind.Lex)
unless_stuck (Some place) (Err fault.NoMemory) = Err fault.NoMemory
unless_stuck (Some place) (Err (fault.Bad at k)) =
    if nat_lt at place then Err (fault.Bad at k) else Err (fault.Bad place kind.Lex)
