use Rattle.std.proofs.Common.{◌≡◌, ◌≤◌, length, map}
use Rattle.std.specs.Prelude.{vec_capacity}
use Rattle.std.specs.List.{range_with_len}
use Rattle.od_asked.specs.Holds.{has_text}
use Rattle.od_pattern.specs.declared.pattern.Value.{Value}
use Rattle.od_constraint.specs.Hits.{AreHits}
use Rattle.od_constraint.proofs.rows.own_row.Given as goal

abbrev pub invariant-loop-token : goal.invariant-loop-token
invariant-loop-token l = record {
  truths : (value : Value) → AreHits l.sentence.table l.field value l.hits → l.own.items ≡ map (has_text l.sentence.sentence l.field value) (range_with_len 0 l.token);
  long : length l.own.items ≡ l.token;
  room : length l.sentence.sentence.tokens ≤ vec_capacity l.own;
}
