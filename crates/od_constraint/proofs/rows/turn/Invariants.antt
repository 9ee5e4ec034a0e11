use Rattle.std.proofs.Common.{◌≡◌}
use Rattle.od_constraint.proofs.RowLemmas.{turned}
use Rattle.od_constraint.proofs.rows.turn.Given as goal

abbrev pub invariant-loop-place : goal.invariant-loop-place
invariant-loop-place l = l.truths ≡ turned l.place l.initial.truths
