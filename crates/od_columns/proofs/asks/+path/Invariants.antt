use Rattle.std.proofs.Common.{◌≡◌, ◌++◌, take}
use Rattle.std.specs.List.{flat_map}
use Rattle.od_asked.specs.Asked.{asked_path}
use Rattle.od_columns.specs.Lent.{all_lent}
use Rattle.od_columns.proofs.asks.+path.Given as goal

abbrev pub invariant-push_paths-loop-part : goal.invariant-push_paths-loop-part
invariant-push_paths-loop-part l =
    all_lent l.asked.items ≡ all_lent l.fn.asked.items ++ flat_map asked_path (take l.part-index l.parts)
