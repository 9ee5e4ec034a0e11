use Rattle.od_rule_text.proofs.Refusals as laws
use Rattle.od_rule_text.proofs.rule_laws.makes_grammars.Goals as goal

pub returns : goal.returns
returns c = laws.makes_grammars
