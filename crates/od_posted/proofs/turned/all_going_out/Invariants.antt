-- The labels so far.
use Rattle.std.proofs.Common.{take}
use Rattle.od_posted.specs.Turned.{GoOut}
use Rattle.od_posted.proofs.turned.all_going_out.Given as goal

abbrev pub invariant-loop-label : goal.invariant-loop-label
invariant-loop-label l = GoOut l.table (take l.label-index l.labels) l.numbers.items
