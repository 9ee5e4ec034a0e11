use Rattle.std.specs.Str.{chars}
use Rattle.od_pattern.specs.declared.rule.Body.TheVariants.{Event}
use Rattle.od_syntax.specs.EventVerdicts.{event_of}
use Rattle.od_syntax.specs.Events.{IsEventText, IsEventTextFault}
use Rattle.od_syntax.proofs.Events.{events_are_computed}
use Rattle.od_item.proofs.Patterns.{value_as, fault_as}
use Rattle.od_item.proofs.body.event_body.Goals as goal

pub returns-in-Ok : goal.returns-in-Ok
returns-in-Ok c =
    let cs = chars c.args.text.now in
    value_as Event (IsEventText cs) (IsEventTextFault cs) (event_of cs) (events_are_computed cs) c.in-Ok.event c.in-Ok.ensures.value

pub returns-in-Err : goal.returns-in-Err
returns-in-Err c =
    let cs = chars c.args.text.now in
    fault_as Event (IsEventText cs) (IsEventTextFault cs) (event_of cs) (events_are_computed cs) c.in-Err.fault c.in-Err.ensures.fault
