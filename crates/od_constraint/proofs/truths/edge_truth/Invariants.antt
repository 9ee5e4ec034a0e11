use Rattle.std.proofs.Common.{◌≡◌, ◌≤◌, take, length}
use Rattle.std.specs.Prelude.{vec_capacity}
use Rattle.od_asked.specs.Asked.{at_edges}
use Rattle.od_asked.specs.Tables.{truths}
use Rattle.od_constraint.proofs.truths.edge_truth.Given as goal

abbrev pub invariant-loop-place : goal.invariant-loop-place
invariant-loop-place l = record {
  truths : l.truths.items ≡ take l.place (truths l.sentence.sentence (at_edges l.label.value));
  room : length l.sentence.sentence.edges ≤ vec_capacity l.truths;
}
