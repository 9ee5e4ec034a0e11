use Rattle.std.proofs.Common.{◌≡◌}
use Rattle.od_pattern.specs.Walk.{plugged, total}
use Rattle.od_pattern.proofs.constraint_walks.ConstraintCopied.copy.Given as goal

abbrev pub invariant-loop-frame : goal.invariant-loop-frame
invariant-loop-frame l = plugged l.frames.items l.made ≡ l.fn.self

abbrev pub decreases-loop-frame : goal.decreases-loop-frame
decreases-loop-frame l = total l.frames.items
