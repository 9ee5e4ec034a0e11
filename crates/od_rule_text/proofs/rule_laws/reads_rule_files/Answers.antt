use Rattle.od_rule_text.proofs.RuleFilesRead as laws
use Rattle.od_rule_text.proofs.rule_laws.reads_rule_files.Goals as goal

pub returns : goal.returns
returns c = laws.reads_rule_files
