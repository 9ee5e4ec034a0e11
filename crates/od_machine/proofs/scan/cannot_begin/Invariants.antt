use Rattle.od_machine.specs.Inputs.{BeginsAt}
use Rattle.od_machine.proofs.scan.cannot_begin.Given as goal

abbrev pub invariant-loop-instruction : goal.invariant-loop-instruction
invariant-loop-instruction l = BeginsAt l.rows l.code l.at l.instruction-index
