-- The rule is resolved over the tables of the segments so far.
use Rattle.std.proofs.Common.{◌≡◌, take}
use Rattle.od_constraint.specs.Runners.{patterns_of, AreOwn}
use Rattle.od_rounds.specs.Resolved.{resolved_over}
use Rattle.od_rounds.proofs.resolving.resolve_over.Given as goal

abbrev pub invariant-loop-segment : goal.invariant-loop-segment
invariant-loop-segment g l =
    (l.resolved ≡ resolved_over (take l.segment l.view.segments) l.rule)
    × AreOwn g.R.Runner.pattern l.runners
    × (patterns_of l.runners ≡ patterns_of l.fn.runners)
