use Rattle.std.proofs.Common.{◌-◌, drop, length}
use Rattle.od_surface.proofs.Named.{Known}
use Rattle.od_surface.proofs.again.first_again.Given as goal

abbrev pub invariant-loop-x : goal.invariant-loop-x
invariant-loop-x l = Known l.names (drop l.i l.lexemes) l.lexemes

abbrev pub decreases-loop-x : goal.decreases-loop-x
decreases-loop-x l = length l.lexemes - l.i
