use Rattle.od_machine.proofs.Bits.{some_ones, all_ones}
use Rattle.od_machine.proofs.marks.low_ones.Goals as goal

pub returns-then-n-lt64 : goal.returns-then-n-lt64
returns-then-n-lt64 c = λ i h. some_ones c.args.n i c.if-n-lt64.true h

pub returns-else-n-lt64 : goal.returns-else-n-lt64
returns-else-n-lt64 c = λ i h. all_ones c.args.n i c.if-n-lt64.false h
