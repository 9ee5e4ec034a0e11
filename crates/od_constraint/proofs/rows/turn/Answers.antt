use Rattle.std.proofs.Common.{◌∙◌}
use Rattle.od_constraint.proofs.RowLemmas.{turned-step, turned-all}
use Rattle.od_constraint.proofs.rows.turn.Goals as goal

pub loop-place-preserved : goal.loop-place-preserved
loop-place-preserved c = turned-step c.loop-place.place c.args.truths.now c.loop-place.truths c.loop-place-test.true c.loop-place.invariant

pub returns : goal.returns
returns c = c.loop-place.invariant ∙ turned-all c.loop-place.place c.args.truths.now c.loop-place-test.false
