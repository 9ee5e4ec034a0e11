use Rattle.std.proofs.Common.{◌≡◌, take}
use Rattle.od_reach.specs.Code.{rows_list}
use Rattle.od_reach.proofs.compile.+count.Given as goal

abbrev pub invariant-count_all-loop-part : goal.invariant-count_all-loop-part
invariant-count_all-loop-part l = l.sum ≡ rows_list (take l.part-index l.parts)
