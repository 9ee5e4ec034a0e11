use Rattle.od_matching.proofs.Rounds.Kept.{rule-after-rule}
use Rattle.od_matching.proofs.round_laws.rules_in_order.Goals as goal

pub returns : goal.returns
returns c = rule-after-rule
