use Rattle.od_event_text.proofs.Cutting.{left_none}
use Rattle.od_event_text.proofs.lines.next_line.Goals as goal

pub returns : goal.returns
returns c = left_none c.args.all c.loop-rest.rest c.is_empty.result c.loop-rest.invariant c.is_empty.ensures c.loop-rest-test.false
