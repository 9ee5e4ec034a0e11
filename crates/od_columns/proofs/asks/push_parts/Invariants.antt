use Rattle.std.proofs.Common.{◌≡◌, ◌++◌, take}
use Rattle.std.specs.List.{flat_map}
use Rattle.od_asked.specs.Asked.{asked_part}
use Rattle.od_columns.specs.Lent.{all_lent}
use Rattle.od_columns.proofs.asks.push_parts.Given as goal

abbrev pub invariant-loop-part : goal.invariant-loop-part
invariant-loop-part l =
    all_lent l.asked.items ≡ all_lent l.fn.asked.items ++ flat_map asked_part (take l.part-index l.parts)
