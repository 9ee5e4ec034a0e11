use Rattle.std.proofs.Common.{◌≡◌, ◌++◌, length, drop}
use Rattle.od_event.specs.Arguments.{argument_codes}
use Rattle.od_rule.proofs.code.add_arguments.Given as goal

abbrev pub invariant-loop-argument : goal.invariant-loop-argument
invariant-loop-argument l =
    l.moves ++ argument_codes (length l.asked.items) (drop l.argument-index l.arguments)
    ≡ l.fn.moves ++ argument_codes (length l.fn.asked.items) l.arguments
