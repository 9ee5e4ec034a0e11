use Rattle.std.proofs.Common.{◌≡◌, length, take}
use Rattle.od_constraint.specs.Rows.{AreMarks}
use Rattle.od_constraint.proofs.rows.end_row.Given as goal

abbrev pub invariant-loop-place : goal.invariant-loop-place
invariant-loop-place l = record {
  marks : AreMarks l.sentence l.outgoing l.hits (take l.place l.sentence.sentence.edges) l.ends.items;
  long : length l.ends.items ≡ length l.sentence.sentence.tokens;
}
