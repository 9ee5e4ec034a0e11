use Rattle.od_rule_text.proofs.Priorities as laws
use Rattle.od_rule_text.proofs.rule_laws.reads_priorities.Goals as goal

pub returns : goal.returns
returns c = laws.reads_priorities
