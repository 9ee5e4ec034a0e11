use Rattle.od_turn.specs.Passes.{blank_origin, IsPassOf}
use Rattle.od_turn.specs.Locks.{lock_id}
use Rattle.od_turn.proofs.tests.turns.Given as goal

abbrev pub invariant-loop-call : goal.invariant-loop-call
invariant-loop-call g l = IsPassOf (lock_id l.lock) blank_origin l.pass
