use Rattle.od_rule_text.proofs.TextFaults as laws
use Rattle.od_rule_text.proofs.rule_laws.has_text_faults.Goals as goal

pub returns : goal.returns
returns c = laws.has_text_faults
