use Rattle.od_rule_text.proofs.GrammarsRead as laws
use Rattle.od_rule_text.proofs.rule_laws.reads_grammars.Goals as goal

pub returns : goal.returns
returns c = laws.reads_grammars
