-- The rules so far are resolved.
use Rattle.std.proofs.Common.{◌≡◌, map, take}
use Rattle.od_constraint.specs.Runners.{patterns_of, AreOwn}
use Rattle.od_rounds.specs.Resolved.{resolved_over}
use Rattle.od_rounds.proofs.resolving.resolve_all.Given as goal

abbrev pub invariant-loop-rule : goal.invariant-loop-rule
invariant-loop-rule g l =
    (l.resolved ≡ map (resolved_over l.view.segments) (take l.rule-index l.rules))
    × AreOwn g.R.Runner.pattern l.runners
    × (patterns_of l.runners ≡ patterns_of l.fn.runners)
