use Rattle.std.proofs.Common.{length}
use Rattle.od_event_text.proofs.Cutting.{Left}
use Rattle.od_event_text.proofs.lines.next_line.Given as goal

abbrev pub invariant-loop-rest : goal.invariant-loop-rest
invariant-loop-rest l = Left l.all l.rest

abbrev pub decreases-loop-rest : goal.decreases-loop-rest
decreases-loop-rest l = length l.rest.text.now
