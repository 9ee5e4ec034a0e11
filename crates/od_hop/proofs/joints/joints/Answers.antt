use Rattle.std.proofs.Common.{◌∙◌, ap, drop, sym}
use Rattle.od_pattern.specs.declared.pattern.Surface.{Surface}
use Rattle.od_syntax.specs.Sizes.{counted, hop_size}
use Rattle.od_hop.specs.declared.joints.Joint.{Joint}
use Rattle.od_hop.proofs.Joins.{no_value, passed_on, led_by}
use Rattle.od_hop.proofs.Verdicts.{hop_with, more_size, more_goes, done_goes, to_joint}
use Rattle.od_hop.proofs.joints.joints.Goals as goal

pub returns-in-Err-clause-goes : goal.returns-in-Err-clause-goes
returns-in-Err-clause-goes c = passed_on {X = Joint} c.in-Err.fault _ _ _ (led_by (no_value {X = Joint} c.in-Err.fault) _ _ _
    (to_joint c.args.again _ c.args.first.pattern c.loop-alloc.rest (drop c.loop-alloc.i c.args.lexemes.now) c.loop-alloc.invariant.goes (sym c.is_step.ensures ∙ c.loop-alloc-test.true))
    (c.in-Err.ensures.goes (hop_with c.args.first.pattern c.loop-alloc.rest)))

pub loop-alloc-preserved : goal.loop-alloc-preserved
loop-alloc-preserved c = record {
  same = c.loop-alloc.invariant.same;
  on = c.in-Ok.ensures.on.1;
  size = more_size c.args.first.pattern c.loop-alloc.rest c.push.new.self c.in-Ok.next.part c.loop-alloc.sum c.in-Ok.next.size c.together-sum.result c.together-sum.ensures
      c.loop-alloc.invariant.size c.in-Ok.ensures.size c.in_ok-push.ensures.ok;
  goes = more_goes c.args.again _ c.args.first.pattern c.loop-alloc.rest (drop c.loop-alloc.i c.args.lexemes.now) c.loop-alloc.invariant.goes
      c.push.new.self c.in-Ok.next.part (drop c.in-Ok.next.to c.args.lexemes.now) (sym c.is_step.ensures ∙ c.loop-alloc-test.true)
      (c.in-Ok.ensures.goes (hop_with c.args.first.pattern c.loop-alloc.rest)) c.in_ok-push.ensures.ok;
}

pub returns-clause-goes : goal.returns-clause-goes
returns-clause-goes c = done_goes c.args.again _ c.args.first.pattern c.loop-alloc.rest (drop c.loop-alloc.i c.args.lexemes.now) c.loop-alloc.invariant.goes _ c.loop-alloc.invariant.same
    (sym c.is_step.ensures ∙ c.loop-alloc-test.false)

pub returns-clause-size : goal.returns-clause-size
returns-clause-size c = c.loop-alloc.invariant.size ∙ ap (λ (z : Surface). counted (hop_size (hop_with z c.loop-alloc.rest))) (sym c.loop-alloc.invariant.same)
