use Rattle.std.proofs.Common.{◌≡◌, ℕ, ap}
use Rattle.std.specs.Prelude.{Err}
use Rattle.od_rule.proofs.Outcomes.{hop_found, hop_crowded, event_found, event_crowded}
use Rattle.od_trails.specs.declared.fault.MatchFault.TheVariants as fault
use Rattle.od_rule.proofs.finder.Finder.find.Goals as goal

pub returns-in-Ok-find_hop-clause-found : goal.returns-in-Ok-find_hop-clause-found
returns-in-Ok-find_hop-clause-found c = λ d k state local.
    hop_found c.args.rule.now d k c.args.words.now.sentence state c.args.local.now local
    c.in-Basic.hop c.in-Ok-find_hop.pairs c.in-Basic.is c.in-Ok-find_hop.ensures.few c.in-Ok-find_hop.ensures.found

pub returns-in-Err-find_hop-clause-crowded : goal.returns-in-Err-find_hop-clause-crowded
returns-in-Err-find_hop-clause-crowded c = λ n is d k state local.
    let same : c.in-Err-find_hop.fault ≡ fault.Crowded n = cc in
    hop_crowded c.args.rule.now d k c.args.words.now.sentence state c.args.local.now local
    c.in-Basic.hop n c.in-Basic.is (c.in-Err-find_hop.ensures.crowded n (ap Err same))

pub returns-in-Ok-find_event-clause-found : goal.returns-in-Ok-find_event-clause-found
returns-in-Ok-find_event-clause-found c = λ d k state local.
    event_found c.args.rule.now d k c.args.words.now.sentence state c.args.local.now local
    c.in-Event.event c.in-Ok-find_event.found c.in-Event.is c.in-Ok-find_event.ensures.few
    (c.in-Ok-find_event.ensures.found c.args.rule.now d k)

pub returns-in-Err-find_event-clause-crowded : goal.returns-in-Err-find_event-clause-crowded
returns-in-Err-find_event-clause-crowded c = λ n is d k state local.
    let same : c.in-Err-find_event.fault ≡ fault.Crowded n = cc in
    event_crowded c.args.rule.now d k c.args.words.now.sentence state c.args.local.now local
    c.in-Event.event n c.in-Event.is (c.in-Err-find_event.ensures.crowded n (ap Err same))
