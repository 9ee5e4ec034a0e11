use Rattle.od_rule_text.proofs.PlainTexts as laws
use Rattle.od_rule_text.proofs.rule_laws.keeps_plain_texts.Goals as goal

pub returns : goal.returns
returns c = laws.keeps_plain_texts
