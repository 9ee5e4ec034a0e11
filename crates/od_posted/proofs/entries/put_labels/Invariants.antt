-- The labels so far, and those of the edges from a place on, are all labels of the token.
use Rattle.std.proofs.Common.{◌≡◌, ◌-◌, ◌++◌, length, drop}
use Rattle.std.specs.Prelude.{Some, slice_get}
use Rattle.od_document.specs.declared.token.Edge.{Edge}
use Rattle.od_posted.specs.Chains.{end_of, labels_at}
use Rattle.od_posted.specs.Entries.{marks_of, marks_at}
use Rattle.od_posted.proofs.entries.put_labels.Given as goal

abbrev pub invariant-loop-place : goal.invariant-loop-place
invariant-loop-place l = record {
  marks : marks_of l.at.table l.entries.items ++ marks_at (l.at.number, l.token) (labels_at l.chains.end l.token (drop l.place l.at.sentence.edges))
      ≡ marks_of l.at.table l.fn.entries.items ++ marks_at (l.at.number, l.token) (labels_at l.chains.end l.token l.at.sentence.edges);
  has : (edge : Edge) → slice_get l.at.sentence.edges l.place ≡ Some edge → end_of l.chains.end edge ≡ l.token;
}

abbrev pub decreases-loop-place : goal.decreases-loop-place
decreases-loop-place l = length l.at.sentence.edges - l.place
