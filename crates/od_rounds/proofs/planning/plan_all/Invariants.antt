-- The rules so far have their plans.
use Rattle.std.proofs.Common.{◌≡◌, take}
use Rattle.od_constraint.specs.Runners.{patterns_of, AreOwn}
use Rattle.od_rounds.specs.Planned.{ArePlans}
use Rattle.od_rounds.proofs.planning.plan_all.Given as goal

abbrev pub invariant-loop-rule : goal.invariant-loop-rule
invariant-loop-rule g l = record {
  plans : ArePlans l.view.segments (take l.rule-index l.rules) l.plans;
  own : AreOwn g.R.Runner.pattern l.runners;
  patterns : patterns_of l.runners ≡ patterns_of l.fn.runners;
}
