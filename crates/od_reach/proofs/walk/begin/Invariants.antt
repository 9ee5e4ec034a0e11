use Rattle.std.proofs.Common.{◌≡◌}
use Rattle.od_reach.specs.Walking.{set_of, starts_below}
use Rattle.od_reach.proofs.walk.begin.Given as goal

abbrev pub invariant-loop-k : goal.invariant-loop-k
invariant-loop-k l = l.todo.items ≡ starts_below (set_of l.from) l.k
