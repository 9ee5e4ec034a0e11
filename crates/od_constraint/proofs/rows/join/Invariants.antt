use Rattle.std.proofs.Common.{◌≡◌, take}
use Rattle.od_constraint.specs.Rows.{zipped, joined}
use Rattle.od_constraint.proofs.rows.join.Given as goal

abbrev pub invariant-loop-place : goal.invariant-loop-place
invariant-loop-place l = l.truths ≡ zipped (joined l.both) (take l.place l.other) l.initial.truths
