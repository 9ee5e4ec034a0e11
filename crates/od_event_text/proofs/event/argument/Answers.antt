use Rattle.od_event_text.proofs.Events.{still_known}
use Rattle.od_event_text.proofs.event.argument.Goals as goal

pub returns-else-branch-clause-names : goal.returns-else-branch-clause-names
returns-else-branch-clause-names c = λ before k. still_known (λ x. x.argument.name) c.with_path.result c.seen_before.new.names before c.in-Some.head.name c.with_path.ensures.name (c.in_ok-seen_before-in-Some.ensures before k).1
