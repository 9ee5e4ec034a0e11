use Rattle.std.proofs.Common.{◌≡◌, ◌+◌, ◌*◌, ◌≤◌, length, false}
use Rattle.od_session.specs.declared.object.TheConstants.{SESSION_ROUNDS}
use Rattle.od_model.specs.History.Legal.{mine}
use Rattle.od_model.specs.History.Orders.{Follows}
use Rattle.od_desk.specs.Further.{Unfolded, Alone}
use Rattle.od_serve.proofs.run.run_client.Given as goal

-- the orders so far were followed, each by at most one entry more than a session has rounds
abbrev pub invariant-orders : goal.invariant-orders
invariant-orders g l = record {
  whole : l.desk.cut ≡ false;
  origin : l.desk.origin ≡ l.fn.desk.origin;
  call : l.call ≡ length (mine l.caller l.desk.history) + 1;
  few : l.call ≤ (SESSION_ROUNDS + 1) * length l.yielded + 1;
  followed : Unfolded Follows l.caller l.yielded l.fn.desk.history l.desk.history;
  alone : Alone l.caller l.fn.desk.history l.desk.history;
}
