use Rattle.od_script.specs.Blocks.{Passed}
use Rattle.od_script.proofs.lines.block.Given as goal

abbrev pub invariant-loop-line : goal.invariant-loop-line
invariant-loop-line l = Passed l.fn.bytes l.rest l._line
