use Rattle.std.proofs.Common.{◌≡◌, length}
use Rattle.od_constraint.specs.Noted.{AreNoted}
use Rattle.od_constraint.specs.Runners.{patterns_of, AreOwn, HaveAll}
use Rattle.od_constraint.specs.Steps.{AreStepsOf, parts, waiting, lent, parts_expressions}
use Rattle.od_constraint.proofs.resolving.resolve.Given as goal

abbrev pub invariant-loop-next : goal.invariant-loop-next
invariant-loop-next g l = record {
  steps : AreStepsOf l.table l.tested.hits.items l.steps.items (parts l.constraint) (waiting (lent l.todo.items));
  noted : AreNoted l.table l.tested.hits.items (patterns_of l.runners) l.tested.noted.items;
  own : AreOwn g.R.Runner.pattern l.runners;
  patterns : patterns_of l.runners ≡ patterns_of l.fn.runners;
  have : HaveAll l.runners (parts_expressions (waiting (lent l.todo.items)));
}

abbrev pub decreases-loop-next : goal.decreases-loop-next
decreases-loop-next g l = length (waiting (lent l.todo.items))
