-- Event patterns as values of their texts, or the first fault.
use Rattle.std.specs.Prelude.{ℕ, Bool, true, false, List, [], ◌∷◌, ◌++◌, Option, Some, None, Ok, Err}
use Rattle.od_pattern.specs.declared.pattern.Surface.{Surface}
use Rattle.od_pattern.specs.declared.rule.Argument.{Argument}
use Rattle.od_pattern.specs.declared.rule.EventRule.{EventRule}
use Rattle.od_language.specs.declared.pattern_fault.PatternKind.TheVariants as kind
use Rattle.od_language.specs.Lexing.{size_of}
use Rattle.od_language.specs.Machine.{◌>>=◌}
use Rattle.od_language.specs.WholeRuns.{Verdict, sized, IsVerdict}
use Rattle.od_syntax.specs.Events.{captures, Line, own_lines, Head, trigger_line, argument_line, argument, IsEventText, IsEventTextFault}
use Rattle.od_syntax.specs.Rules.{is_one_of}
use Rattle.od_syntax.specs.Sizes.{event_size}
use Rattle.od_syntax.specs.Verdicts.{surface_at, path_at}

-- the trigger of a line
abbrev pub trigger_by : Line → Option (ℕ × List ℕ) → Verdict Surface
trigger_by line None = Err (line.at, kind.Expected)
trigger_by line (Some x) = surface_at x.0 x.1

-- the argument of a line, where its name is taken or is not
abbrev pub argument_if : Line → Head → ℕ → List ℕ → Bool → Verdict Argument
argument_if line head at text true = Err (line.at, kind.SameCapture)
argument_if line head at text false = path_at at text >>= λ p. Ok (argument head p)

abbrev pub argument_by : List (List ℕ) → Line → Option (Head × ℕ × List ℕ) → Verdict Argument
argument_by names line None = Err (line.at, kind.Expected)
argument_by names line (Some x) = argument_if line x.0 x.1 x.2 (is_one_of names x.0.name)

-- the arguments of lines, where these names are taken
abbrev pub arguments_of : List (List ℕ) → List Line → Verdict (List Argument)
arguments_of names [] = Ok []
arguments_of names (line ∷ others) =
    argument_by names line (argument_line line) >>= λ a. arguments_of (names ++ a.name ∷ []) others >>= λ found. Ok (a ∷ found)

-- the event rule of lines
abbrev pub event_lines : ℕ → List Line → Verdict EventRule
event_lines end [] = Err (end, kind.Expected)
event_lines end (line ∷ others) =
    trigger_by line (trigger_line line) >>= λ p. arguments_of (captures p) others >>= λ found. Ok (record { trigger = p; arguments = found })

-- the event rule of a text, or its first fault
abbrev pub event_of : List ℕ → Verdict EventRule
event_of cs = sized event_size (event_lines (size_of cs) (own_lines cs))

-- a text has exactly the verdict that is computed
abbrev pub EventsAreComputed : Type 0
EventsAreComputed = (cs : List ℕ) → IsVerdict (IsEventText cs) (IsEventTextFault cs) (event_of cs)
