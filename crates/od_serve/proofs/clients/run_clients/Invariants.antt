use Rattle.std.proofs.Common.{◌≡◌, ◌+◌, ◌≤◌, IsTrue, length, false}
use Rattle.od_model.specs.History.Orders.{Follows, Begins}
use Rattle.od_model.proofs.Histories.Callers.{EachFrom}
use Rattle.od_serve.proofs.ClientLemmas.{CallersTo}
use Rattle.od_serve.proofs.clients.run_clients.Given as goal

-- the clients so far were followed, all of them to their end where the flag says so
abbrev pub invariant-clients : goal.invariant-clients
invariant-clients g l = record {
  whole : l.desk.cut ≡ false;
  origin : l.desk.origin ≡ l.fn.desk.origin;
  caller : l.caller ≡ length l.yielded + 1;
  callers : CallersTo (length l.yielded) l.desk.history;
  begins : EachFrom Begins 0 l.yielded l.desk.history;
  follows : IsTrue l.whole → EachFrom Follows 0 l.yielded l.desk.history;
}
