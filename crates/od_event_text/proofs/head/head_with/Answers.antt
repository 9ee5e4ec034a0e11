use Rattle.od_event_text.proofs.Heads.{head_is}
use Rattle.od_event_text.proofs.head.head_with.Goals as goal

pub returns-in_ok-name-in-Some : goal.returns-in_ok-name-in-Some
returns-in_ok-name-in-Some c = head_is c.args.name.now c.in_ok-name-in-Some.name c.args.label c.args.many c.in-Some.many c.requires c.in_ok-name-in-Some.ensures c.in-Some.is
