use Rattle.std.proofs.Common.{◌∙◌}
use Rattle.od_constraint.specs.Rows.{joined}
use Rattle.od_constraint.proofs.RowLemmas.{zipped-all}
use Rattle.od_constraint.proofs.rows.join.Goals as goal

pub loop-place-preserved : goal.loop-place-preserved
loop-place-preserved c = c.join_at.ensures c.args.truths.now c.loop-place.invariant

pub returns : goal.returns
returns c = c.loop-place.invariant ∙ zipped-all (joined c.args.both) c.loop-place.place c.args.other.now c.args.truths.now c.loop-place-test.false
