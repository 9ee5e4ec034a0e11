-- Hops as values of their texts, or the first fault.
use Rattle.std.specs.Prelude.{ℕ, List, []}
use Rattle.od_pattern.specs.declared.rule.Hop.{Hop}
use Rattle.od_language.specs.Lexed.{lexed_from}
use Rattle.od_language.specs.Machine.{Rule, run}
use Rattle.od_language.specs.Narrower.{rule_between}
use Rattle.od_language.specs.Whole.{OneOf}
use Rattle.od_language.specs.WholeRuns.{Verdict, to_the_end, before_stuck, sized, IsVerdict}
use Rattle.od_syntax.specs.HopMachine.{State, first, step, ended, repeat_rule}
use Rattle.od_syntax.specs.Hops.{rule_untold}
use Rattle.od_syntax.specs.Rules.{bad_range, capture_or_own}
use Rattle.od_syntax.specs.Sizes.{may_repeat, may_always, hop_size}
use Rattle.od_syntax.specs.Texts.{stuck_at, IsHop, IsHopFault, IsHopText, IsHopTextFault}
use Rattle.od_syntax.specs.Told.{Told, told_apart, told}
use Rattle.od_syntax.specs.Verdicts.{surface_start}

-- where the machine of hops begins
abbrev pub hop_start : State
hop_start = first surface_start

-- the rule that a lexeme of a hop breaks
abbrev pub hop_rule : Rule Told
hop_rule = rule_between hop_start (step may_repeat)
    (rule_untold bad_range) (rule_untold capture_or_own) (repeat_rule may_repeat)

-- what characters that begin at a place are read as
abbrev pub hop_at : ℕ → List ℕ → Verdict Hop
hop_at at cs = before_stuck (stuck_at (lexed_from at cs).1) (to_the_end told_apart
    (run told_apart (step may_always) hop_rule ended [] hop_start (told (lexed_from at cs).0)))

-- the hop of a text, or its first fault
abbrev pub hop_of : List ℕ → Verdict Hop
hop_of cs = sized hop_size (hop_at 0 cs)

-- characters at a place, and texts, have exactly the verdict that is computed
abbrev pub HopsAreComputed : Type 0
HopsAreComputed = (at : ℕ) (cs : List ℕ) → IsVerdict (IsHop at cs) (IsHopFault at cs) (hop_at at cs)

abbrev pub HopTextsAreComputed : Type 0
HopTextsAreComputed = (cs : List ℕ) → IsVerdict (IsHopText cs) (IsHopTextFault cs) (hop_of cs)

-- a text is a hop of one value or has one first fault, and never both
abbrev pub HopTextsHaveOneAnswer : Type 0
HopTextsHaveOneAnswer = (cs : List ℕ) → OneOf (IsHopText cs) (IsHopTextFault cs)
