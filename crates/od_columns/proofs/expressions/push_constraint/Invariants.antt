use Rattle.std.proofs.Common.{◌≡◌, ◌++◌}
use Rattle.od_asked.specs.Expressions.{expressions_in}
use Rattle.od_columns.specs.Waiting.{constraints, expressions_waiting, texts, work}
use Rattle.od_columns.proofs.expressions.push_constraint.Given as goal

abbrev pub invariant-loop-next : goal.invariant-loop-next
invariant-loop-next l =
    texts l.found.items ++ expressions_waiting (constraints l.todo.items)
    ≡ texts l.fn.found.items ++ expressions_in l.constraint

abbrev pub decreases-loop-next : goal.decreases-loop-next
decreases-loop-next l = work (constraints l.todo.items)
