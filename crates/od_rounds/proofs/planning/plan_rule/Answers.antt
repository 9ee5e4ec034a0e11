use Rattle.od_rounds.proofs.Plans.{plan-is, need-runs}
use Rattle.od_rounds.proofs.planning.plan_rule.Goals as goal

pub plan_over-requires-clause-has : goal.plan_over-requires-clause-has
plan_over-requires-clause-has g c = need-runs c.args.runners.now c.args.rule.now c.in_ok-need.need c.in_ok-need.ensures c.requires.has

pub returns-clause-plan : goal.returns-clause-plan
returns-clause-plan g c =
    plan-is c.args.view.now.segments c.args.rule.now c.in_ok-need.need c.plan_over.result c.in_ok-need.ensures c.plan_over.ensures.each c.plan_over.ensures.meant
