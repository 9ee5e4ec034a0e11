-- What is said of an answer: it is what a text is read as, or memory was refused.
use Rattle.std.specs.Prelude.{◌≡◌, ℕ, Option, Some, None, Result, Ok, Err, nat_lt, if◌then◌else◌}
use Rattle.od_language.specs.declared.pattern_fault.PatternKind.TheVariants as kind
use Rattle.od_language.specs.declared.pattern_fault.PatternFault.{PatternFault}
use Rattle.od_language.specs.declared.pattern_fault.PatternFault.TheVariants as fault
use Rattle.od_language.specs.WholeRuns.{Verdict}

-- the answer is what a text is read as, or memory was refused; `value` reads the answer's value
abbrev pub Tells : {A C : Type 0} → (A → C) → Result A PatternFault → Verdict C → Type 0
Tells value (Ok x) verdict = verdict ≡ Ok (value x)
Tells value (Err fault.NoMemory) verdict = Unit {0}
Tells value (Err (fault.Bad at k)) verdict = verdict ≡ Err (at, k)

-- the answer is this value, or memory was refused
abbrev pub GivesValue : {C : Type 0} → Result C PatternFault → C → Type 0
GivesValue (Ok x) value = x ≡ value
GivesValue (Err fault.NoMemory) value = Unit {0}
GivesValue (Err (fault.Bad at k)) value = ⊥

-- an answer of the parser, unless the lexer has a fault at this place that comes first
abbrev pub unless_stuck : {A : Type 0} → Option ℕ → Result A PatternFault → Result A PatternFault
unless_stuck None answer = answer
unless_stuck (Some place) (Ok x) = Err (fault.Bad place kind.Lex)
unless_stuck (Some place) (Err fault.NoMemory) = Err fault.NoMemory
unless_stuck (Some place) (Err (fault.Bad at k)) =
    if nat_lt at place then Err (fault.Bad at k) else Err (fault.Bad place kind.Lex)
