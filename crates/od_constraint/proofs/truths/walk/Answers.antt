use Rattle.std.proofs.Common.{◌∙◌, ap, sym, arith}
use Rattle.od_constraint.specs.Rows.{rows_of, stacked}
use Rattle.od_constraint.proofs.StackLemmas.{step_of_part, steps_end, walked}
use Rattle.od_constraint.proofs.truths.walk.Goals as goal

pub loop-place-init : goal.loop-place-init
loop-place-init c = record {
  within = omega arith;
  rows = λ ps h. ap stacked c.new-rows.ensures.items ∙ ap (rows_of c.args.sentence.now.sentence) (sym (steps_end c.args.sentence.now.table c.args.hits.now c.args.steps.now ps h));
}

pub put-requires : goal.put-requires
put-requires c = step_of_part c.args.sentence.now.table c.args.hits.now c.args.steps.now _ c.step_at.result c.requires c.step_at.ensures

pub loop-place-preserved : goal.loop-place-preserved
loop-place-preserved c = record {
  within = omega (arith, c.loop-place.invariant.within);
  rows = λ ps h.
      walked c.args.sentence.now.sentence c.args.sentence.now.table c.args.hits.now c.args.steps.now ps c.step_at.result c.loop-place.place _ c.loop-place.rows.items c.put.new.rows.items h c.step_at.ensures
      (omega (arith, c.loop-place-test.true)) c.in_ok-put.ensures (c.loop-place.invariant.rows ps h);
}
