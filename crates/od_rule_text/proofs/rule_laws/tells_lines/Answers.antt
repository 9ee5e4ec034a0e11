use Rattle.od_rule_text.proofs.RuleFilesRead as laws
use Rattle.od_rule_text.proofs.rule_laws.tells_lines.Goals as goal

pub returns : goal.returns
returns c = laws.tells_lines
