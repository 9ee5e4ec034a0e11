use Rattle.std.proofs.Common.{◌≡◌}
use Rattle.od_need.specs.Needs.{need_constraint}
use Rattle.od_require.specs.Walk.{plugged, total}
use Rattle.od_require.proofs.constraints.need_of_constraint.Given as goal

abbrev pub invariant-loop-frame : goal.invariant-loop-frame
invariant-loop-frame l = plugged l.frames.items l.need ≡ need_constraint l.fn.constraint

abbrev pub decreases-loop-frame : goal.decreases-loop-frame
decreases-loop-frame l = total l.frames.items
