use Rattle.std.proofs.Common.{◌≡◌}
use Rattle.od_desk.specs.Desks.{taken}
use Rattle.od_desk.proofs.desk.Desk.new.Goals as goal
use Rattle.od_desk.proofs.Answering.{begins}

pub invariant_of-result : goal.invariant_of-result
invariant_of-result g c = rw (c.of-start.ensures, c.of-before.ensures, c.new-workspace.ensures, c.new.ensures.items) (begins c.args.heads (taken (g.W.Sink.written c.args.sink) (g.W.Sink.faults c.args.sink)) c.requires.accepted)
