use Rattle.od_rule_text.proofs.ReadsBack as laws
use Rattle.od_rule_text.proofs.rule_laws.reads_back.Goals as goal

pub returns : goal.returns
returns c = laws.reads_back
