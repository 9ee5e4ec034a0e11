use Rattle.std.proofs.Common.{◌∙◌, sym, drop}
use Rattle.od_syntax.specs.Events.{pieces}
use Rattle.od_event_text.proofs.Heads.{label_is}
use Rattle.od_event_text.proofs.head.head_behind.Goals as goal

pub returns-in_ok-text-in-Some : goal.returns-in_ok-text-in-Some
returns-in_ok-text-in-Some c = label_is c.head_with-in-Some.result c.args.name.now c.in-Some.label.now c.in_ok-text-in-Some.text c.many_of-in-Some.result _ (pieces (drop c.args.from c.args.chars.now))
    (sym c.is_identifier.ensures ∙ c.if-not-is_identifier.false) c.in_ok-text-in-Some.ensures c.many_of-in-Some.ensures (c.in-Some.ensures.label c.args.name.now) c.head_with-in-Some.ensures
