use Rattle.std.proofs.Common.{◌≡◌, take}
use Rattle.od_reach.specs.Code.{order_size_list, any_size_list}
use Rattle.od_reach.proofs.compile.+size.Given as goal

abbrev pub invariant-size_all-loop-part : goal.invariant-size_all-loop-part
invariant-size_all-loop-part l = l.sum ≡ order_size_list (take l.part-index l.parts)

abbrev pub invariant-size_any-loop-part : goal.invariant-size_any-loop-part
invariant-size_any-loop-part l = l.sum ≡ any_size_list (take l.part-index l.parts)
