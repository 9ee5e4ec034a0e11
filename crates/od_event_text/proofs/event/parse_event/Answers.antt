use Rattle.std.specs.Str.{chars}
use Rattle.od_syntax.specs.Events.{own_lines}
use Rattle.od_written.proofs.Events.{events_read_back}
use Rattle.od_event_text.proofs.Events.{event_value, event_fault, event_only_value, event_only_fault, one_event}
use Rattle.od_event_text.proofs.event.parse_event.Goals as goal

pub returns-clause-value : goal.returns-clause-value
returns-clause-value c = event_value (chars c.args.text.now) _ c.event_of.ensures

pub returns-clause-fault : goal.returns-clause-fault
returns-clause-fault c = event_fault (chars c.args.text.now) _ c.event_of.ensures

pub returns-clause-only_value : goal.returns-clause-only_value
returns-clause-only_value c = event_only_value (chars c.args.text.now) _ c.event_of.ensures

pub returns-clause-only_fault : goal.returns-clause-only_fault
returns-clause-only_fault c = event_only_fault (chars c.args.text.now) _ c.event_of.ensures

pub returns-clause-one_answer : goal.returns-clause-one_answer
returns-clause-one_answer c = one_event (chars c.args.text.now)

pub returns-clause-reads_back : goal.returns-clause-reads_back
returns-clause-reads_back c = λ r w l keeps small. returns-clause-only_value c r (record { is = events_read_back (own_lines (chars c.args.text.now)) r w l keeps; small = small })
