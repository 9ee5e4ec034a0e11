use Rattle.std.proofs.Common.{◌≡◌, take}
use Rattle.od_machine.specs.Code.{constraints_list}
use Rattle.od_machine.proofs.compile.+count.Given as goal

abbrev pub invariant-count_all-loop-part : goal.invariant-count_all-loop-part
invariant-count_all-loop-part l = l.sum ≡ constraints_list (take l.part-index l.parts)
