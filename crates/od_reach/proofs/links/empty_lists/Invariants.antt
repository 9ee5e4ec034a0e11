use Rattle.std.proofs.Common.{◌≡◌, ◌≤◌, []}
use Rattle.std.specs.Prelude.{replicate, vec_capacity}
use Rattle.od_reach.proofs.links.empty_lists.Given as goal

abbrev pub invariant-loop-k : goal.invariant-loop-k
invariant-loop-k l = record { items : l.lists.items ≡ replicate l._k []; room : l.count ≤ vec_capacity l.lists }
