use Rattle.std.proofs.Common.{◌≡◌, ◌++◌, take}
use Rattle.std.specs.List.{flat_map}
use Rattle.od_asked.specs.Asked.{asked_argument}
use Rattle.od_columns.specs.Lent.{all_lent}
use Rattle.od_columns.proofs.asks.push_arguments.Given as goal

abbrev pub invariant-loop-argument : goal.invariant-loop-argument
invariant-loop-argument l =
    all_lent l.asked.items
    ≡ all_lent l.fn.asked.items ++ flat_map asked_argument (take l.argument-index l.arguments)
