use Rattle.od_rule_text.proofs.RuleFilesRead.{reads_rule_files}
use Rattle.od_grammar.proofs.reading.read_file_text.Goals as goal

pub read_file-requires : goal.read_file-requires
read_file-requires c = (reads_rule_files c.args.text.now c.in-Ok.file c.in-Ok.ensures.value).vars.distinct
