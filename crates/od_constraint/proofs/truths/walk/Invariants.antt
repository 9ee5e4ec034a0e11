use Rattle.std.proofs.Common.{◌≡◌, ◌≤◌, List, [], length, drop}
use Rattle.od_constraint.specs.Rows.{rows_of, stacked}
use Rattle.od_constraint.specs.Steps.{Part, AreStepsOf}
use Rattle.od_constraint.proofs.truths.walk.Given as goal

abbrev pub invariant-loop-place : goal.invariant-loop-place
invariant-loop-place l = record {
  within : l.place ≤ length l.steps;
  rows : (ps : List Part) → AreStepsOf l.sentence.table l.hits l.steps ps [] → stacked l.rows.items ≡ rows_of l.sentence.sentence (drop l.place ps);
}

abbrev pub decreases-loop-place : goal.decreases-loop-place
decreases-loop-place l = l.place
