use Rattle.od_machine.proofs.Bits.{marks-length, mark-blank}
use Rattle.od_machine.proofs.marks.Marks.reset.Goals as goal

pub returns-clause-len : goal.returns-clause-len
returns-clause-len c = marks-length c.grow_blank.new.words.items c.args.count

pub returns-clause-off : goal.returns-clause-off
returns-clause-off c = λ n. mark-blank c.grow_blank.new.words.items c.args.count n c.grow_blank.ensures.blank
