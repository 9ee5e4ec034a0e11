use Rattle.std.proofs.Common.{◌≡◌, ◌≤◌, ◌+◌, ◌-◌, length, [], vec_capacity}
use Rattle.od_turn.specs.declared.view.Stage.TheVariants.{Idle}
use Rattle.od_turn.specs.Rule.{new_passes}
use Rattle.od_turn.specs.Steps.{at_stage}
use Rattle.od_turn.specs.Passes.{AreNew}
use Rattle.od_turn.proofs.turnstile.Turnstile.issue.Given as goal

abbrev pub invariant-loop-number : goal.invariant-loop-number
invariant-loop-number g l = record {
  own : l.seat.table_id ≡ l.self.table.shared.table_id;
  view : l.seat.me ≡ (at_stage (new_passes (g.V.Counted.origin l.self.table.shared.key.first.value) (g.V.Counted.marks l.self.table.shared.key.first.value) l.number ((l.callers + 1) - l.number)) Idle, []);
  new : AreNew (g.V.Counted.origin l.self.table.shared.key.first.value) (g.V.Counted.marks l.self.table.shared.key.first.value) l.self.table.shared.table_id 1 l.passes.items;
  many : length l.passes.items + 1 ≡ l.number;
  room : l.callers ≤ vec_capacity l.passes;
}
