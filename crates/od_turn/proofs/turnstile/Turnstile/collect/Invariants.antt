use Rattle.std.proofs.Common.{◌≡◌, ◌++◌, []}
use Rattle.od_turn.specs.declared.view.Stage.TheVariants.{Idle}
use Rattle.od_turn.specs.Passes.{AreFree, pass_views}
use Rattle.od_turn.specs.Steps.{at_stage}
use Rattle.od_turn.proofs.turnstile.Turnstile.collect.Given as goal

abbrev pub invariant-loop-pass : goal.invariant-loop-pass
invariant-loop-pass g l = record {
  own : l.seat.table_id ≡ l.self.table.shared.table_id;
  view : l.seat.me ≡ (at_stage l.seat.me.0.passes Idle, []);
  free : AreFree l.self.table.shared.table_id l.passes.items;
  all : pass_views l.passes.items ++ l.seat.me.0.passes ≡ pass_views l.fn.passes.items;
}

abbrev pub decreases-loop-pass : goal.decreases-loop-pass
decreases-loop-pass g l = goal.left-loop-pass g l
