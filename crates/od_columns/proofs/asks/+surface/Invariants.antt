use Rattle.std.proofs.Common.{◌≡◌, ◌++◌, take}
use Rattle.std.specs.List.{flat_map}
use Rattle.od_asked.specs.Asked.{asked_surface}
use Rattle.od_columns.specs.Lent.{all_lent}
use Rattle.od_columns.proofs.asks.+surface.Given as goal

abbrev pub invariant-push_surfaces-loop-part : goal.invariant-push_surfaces-loop-part
invariant-push_surfaces-loop-part l =
    all_lent l.asked.items ≡ all_lent l.fn.asked.items ++ flat_map asked_surface (take l.part-index l.parts)
