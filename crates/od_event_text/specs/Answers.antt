-- What the lines of an event pattern say, as the program has it.
use Rattle.std.specs.Prelude.{◌≡◌, ℕ, ◌≤◌, List, Option, Some, None, Ok}
use Rattle.std.specs.Str.{chars}
use Rattle.od_language.specs.Machine.{◌>>=◌}
use Rattle.od_language.specs.WholeRuns.{Verdict}
use Rattle.od_pattern.specs.declared.pattern.Surface.{Surface}
use Rattle.od_pattern.specs.declared.rule.Argument.{Argument}
use Rattle.od_pattern.specs.declared.rule.EventRule.{EventRule}
use Rattle.od_syntax.specs.Events.{captures, Line, trigger_line, argument_line, argument}
use Rattle.od_syntax.specs.Events as events
use Rattle.od_syntax.specs.EventVerdicts.{arguments_of}
use Rattle.od_syntax.specs.Verdicts.{path_at}
use Rattle.od_event_text.specs.declared.head.Head.{Head}
use Rattle.od_event_text.specs.declared.lines.Part.{Part}
use Rattle.od_event_text.specs.Heads.{shown}
use Rattle.od_event_text.specs.Parts.{ends, line_of}

-- what stands behind the head of the trigger's line
abbrev pub IsTriggerText : Part → Option Part → Type 0
IsTriggerText line None = trigger_line (line_of line) ≡ None
IsTriggerText line (Some x) =
    (trigger_line (line_of line) ≡ Some (x.at, chars x.text.now)) × (ends x ≤ ends line)

-- the head of an argument's line, and what stands behind it
abbrev pub IsArgumentText : Part → Option (Head × Part) → Type 0
IsArgumentText line None = argument_line (line_of line) ≡ None
IsArgumentText line (Some x) =
    (argument_line (line_of line) ≡ Some (shown x.0, x.1.at, chars x.1.text.now))
    × (ends x.1 ≤ ends line)

-- the argument of a head, with the path of a text
abbrev pub pathed : events.Head → ℕ → List ℕ → Verdict Argument
pathed head at text = path_at at text >>= λ p. Ok (argument head p)

-- the rule of a trigger, with the arguments of some lines
abbrev pub ruled : Surface → List Line → Verdict EventRule
ruled p ls =
    arguments_of (captures p) ls >>= λ found. Ok (record { trigger = p; arguments = found })
