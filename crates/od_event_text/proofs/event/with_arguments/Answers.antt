use Rattle.std.proofs.Common.{◌≡◌, ℕ, List, [], false, rules}
use Rattle.std.specs.HashSet.{contains_text}
use Rattle.od_pattern.specs.declared.rule.Argument.{Argument}
use Rattle.od_syntax.specs.Events.{captures}
use Rattle.od_event_text.specs.declared.event.Measured.{Measured}
use Rattle.od_event_text.specs.Parts.{own_of}
use Rattle.od_event_text.proofs.Events.{knows_none, rule_fails, rule_read}
use Rattle.od_event_text.proofs.event.with_arguments.Goals as goal

pub returns-in-Err-clause-tells : goal.returns-in-Err-clause-tells
returns-in-Err-clause-tells c =
    let none : (q : List ℕ) → contains_text c.new-names.result q ≡ false = search rules in
    rule_fails (λ (x : List Argument × ℕ). x.0) (λ (x : Measured). x.rule) c.in-Err.fault c.args.trigger.pattern (own_of c.args.rest) (c.in-Err.ensures.tells (captures c.args.trigger.pattern) (c.in_ok-add_captures.ensures [] (knows_none c.new-names.result none)))

pub returns-in-Ok-clause-tells : goal.returns-in-Ok-clause-tells
returns-in-Ok-clause-tells c =
    let none : (q : List ℕ) → contains_text c.new-names.result q ≡ false = search rules in
    rule_read c.args.trigger.pattern (own_of c.args.rest) c.in-Ok.arguments (c.in-Ok.ensures.tells (captures c.args.trigger.pattern) (c.in_ok-add_captures.ensures [] (knows_none c.new-names.result none)))
