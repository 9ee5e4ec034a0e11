use Rattle.od_rule_text.proofs.GrammarsRead as laws
use Rattle.od_rule_text.proofs.rule_laws.keeps_order.Goals as goal

pub returns : goal.returns
returns c = laws.keeps_order
