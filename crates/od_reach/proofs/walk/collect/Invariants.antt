use Rattle.std.proofs.Common.{◌≡◌, ◌≤◌, vec_len}
use Rattle.std.specs.Prelude.{vec_capacity}
use Rattle.od_reach.specs.Walking.{AreEnds}
use Rattle.od_reach.proofs.walk.collect.Given as goal

abbrev pub invariant-loop-at : goal.invariant-loop-at
invariant-loop-at l = record {
  long : vec_len l.ends ≡ l.at;
  ends : AreEnds l.moves l.at l.marks l.ends.items;
  room : l.tokens ≤ vec_capacity l.ends;
}
