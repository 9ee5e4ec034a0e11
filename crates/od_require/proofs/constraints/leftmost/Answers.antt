use Rattle.std.proofs.Common.{◌≡◌, ◌∙◌, sym, ap, arith}
use Rattle.od_need.specs.Needs.{need_constraint}
use Rattle.od_require.specs.Walk.{plugged}
use Rattle.od_pattern.specs.Walk.{parts_in}
use Rattle.od_pattern.proofs.Walks.{parts_in_not, parts_of_and, parts_of_or}
use Rattle.od_pattern.specs.declared.pattern.Constraint.TheVariants as constraint
use Rattle.od_require.specs.declared.constraints.Frame.TheVariants as frame
use Rattle.od_require.proofs.Walks.{need_and, need_not, need_or, plugged_step, total_step}
use Rattle.od_require.proofs.constraints.leftmost.Goals as goal

pub loop-at-preserved-in-And : goal.loop-at-preserved-in-And
loop-at-preserved-in-And c =
    let parts : constraint.And c.get-at.result.now c.get.result.now ≡ c.loop-at.at.now =
    ap (λ z. constraint.And z c.get.result.now) c.get-at.ensures ∙ ap (λ z. constraint.And c.in-And.left z) c.get.ensures ∙ sym c.in-And.is in
    record {
      same = plugged_step c.loop-at.frames.items c.push.new.frames.items (frame.AndRight c.get.result) c.loop-at.at.now c.get-at.result.now c.in_ok-push-in-And.ensures
          (need_and c.get-at.result.now c.get.result.now ∙ ap need_constraint parts) ∙ c.loop-at.invariant.same;
      less = total_step c.loop-at.frames.items c.push.new.frames.items (frame.AndRight c.get.result) c.loop-at.at.now c.get-at.result.now _ c.in_ok-push-in-And.ensures
          (parts_of_and c.loop-at.at.now c.get-at.result.now c.get.result.now (sym parts)) c.loop-at.invariant.less;
    }

pub loop-at-preserved : goal.loop-at-preserved
loop-at-preserved c =
    let parts : constraint.Or c.get-at-in-Or.result.now c.get-in-Or.result.now ≡ c.loop-at.at.now =
    ap (λ z. constraint.Or z c.get-in-Or.result.now) c.get-at-in-Or.ensures ∙ ap (λ z. constraint.Or c.in-Or.left z) c.get-in-Or.ensures ∙ sym c.in-Or.is in
    record {
      same = plugged_step c.loop-at.frames.items c.push-in-Or.new.frames.items (frame.OrRight c.get-in-Or.result) c.loop-at.at.now c.get-at-in-Or.result.now c.in_ok-push-in-Or.ensures
          (need_or c.get-at-in-Or.result.now c.get-in-Or.result.now ∙ ap need_constraint parts) ∙ c.loop-at.invariant.same;
      less = total_step c.loop-at.frames.items c.push-in-Or.new.frames.items (frame.OrRight c.get-in-Or.result) c.loop-at.at.now c.get-at-in-Or.result.now _ c.in_ok-push-in-Or.ensures
          (parts_of_or c.loop-at.at.now c.get-at-in-Or.result.now c.get-in-Or.result.now (sym parts)) c.loop-at.invariant.less;
    }

pub returns-in-Not-clause-plugged : goal.returns-in-Not-clause-plugged
returns-in-Not-clause-plugged c =
    ap (plugged c.loop-at.frames.items) (sym (ap need_constraint c.in-Not.is ∙ need_not c.in-Not.field-0)) ∙ c.loop-at.invariant.same

pub returns-in-Not-clause-less : goal.returns-in-Not-clause-less
returns-in-Not-clause-less c =
    omega (arith, ap parts_in c.in-Not.is ∙ parts_in_not c.in-Not.field-0, c.loop-at.invariant.less)
