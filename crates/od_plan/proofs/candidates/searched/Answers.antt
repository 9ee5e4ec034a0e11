use Rattle.std.proofs.Common.{arith}
use Rattle.od_plan.proofs.Choosing.{documents-within}
use Rattle.od_plan.proofs.candidates.searched.Goals as goal

pub invariant_of-result : goal.invariant_of-result
invariant_of-result c =
    let before = documents-within c.args.view.now.segments c.args.place c.segment-segment.result.now c.segment-segment.ensures in
    record { few = omega (arith, before, c.first-first.ensures.first, c.first-first.ensures.few) }
