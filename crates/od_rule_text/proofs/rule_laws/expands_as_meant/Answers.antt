use Rattle.od_rule_text.proofs.Meanings as laws
use Rattle.od_rule_text.proofs.rule_laws.expands_as_meant.Goals as goal

pub returns : goal.returns
returns c = laws.expands_as_meant
