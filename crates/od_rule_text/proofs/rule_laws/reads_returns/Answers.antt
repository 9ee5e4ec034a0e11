use Rattle.od_rule_text.proofs.Returns as laws
use Rattle.od_rule_text.proofs.rule_laws.reads_returns.Goals as goal

pub returns : goal.returns
returns c = laws.reads_returns
