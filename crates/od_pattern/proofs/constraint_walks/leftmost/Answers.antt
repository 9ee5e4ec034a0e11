use Rattle.std.proofs.Common.{◌≡◌, ◌∙◌, sym, ap}
use Rattle.od_pattern.specs.declared.pattern.Constraint.TheVariants as constraint
use Rattle.od_pattern.specs.declared.constraint_walks.Frame.TheVariants as frame
use Rattle.od_pattern.proofs.Walks.{plugged_step, total_step, parts_of_and, parts_of_or}
use Rattle.od_pattern.proofs.constraint_walks.leftmost.Goals as goal

pub loop-at-preserved-in-And : goal.loop-at-preserved-in-And
loop-at-preserved-in-And c =
    let parts : constraint.And c.get-at-in-And.result.now c.get.result.now ≡ c.loop-at.at.now =
    ap (λ z. constraint.And z c.get.result.now) c.get-at-in-And.ensures ∙ ap (λ z. constraint.And c.in-And.left z) c.get.ensures ∙ sym c.in-And.is in
    record {
      same = plugged_step c.loop-at.frames.items c.push-in-And.new.frames.items (frame.AndRight c.get.result) c.loop-at.at.now c.get-at-in-And.result.now c.in_ok-push-in-And.ensures parts ∙ c.loop-at.invariant.same;
      less = total_step c.loop-at.frames.items c.push-in-And.new.frames.items (frame.AndRight c.get.result) c.loop-at.at.now c.get-at-in-And.result.now _ c.in_ok-push-in-And.ensures
          (parts_of_and c.loop-at.at.now c.get-at-in-And.result.now c.get.result.now (sym parts)) c.loop-at.invariant.less;
    }

pub loop-at-preserved : goal.loop-at-preserved
loop-at-preserved c =
    let parts : constraint.Or c.get-at-in-Or.result.now c.get-in-Or.result.now ≡ c.loop-at.at.now =
    ap (λ z. constraint.Or z c.get-in-Or.result.now) c.get-at-in-Or.ensures ∙ ap (λ z. constraint.Or c.in-Or.left z) c.get-in-Or.ensures ∙ sym c.in-Or.is in
    record {
      same = plugged_step c.loop-at.frames.items c.push-in-Or.new.frames.items (frame.OrRight c.get-in-Or.result) c.loop-at.at.now c.get-at-in-Or.result.now c.in_ok-push-in-Or.ensures parts ∙ c.loop-at.invariant.same;
      less = total_step c.loop-at.frames.items c.push-in-Or.new.frames.items (frame.OrRight c.get-in-Or.result) c.loop-at.at.now c.get-at-in-Or.result.now _ c.in_ok-push-in-Or.ensures
          (parts_of_or c.loop-at.at.now c.get-at-in-Or.result.now c.get-in-Or.result.now (sym parts)) c.loop-at.invariant.less;
    }
