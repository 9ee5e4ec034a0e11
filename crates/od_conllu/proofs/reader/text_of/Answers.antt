use Rattle.std.proofs.lemmas.Str.{utf8_valid_len-IsUtf8}
use Rattle.od_conllu.proofs.reader.text_of.Goals as goal

pub returns-in-Ok-clause-ok : goal.returns-in-Ok-clause-ok
returns-in-Ok-clause-ok c = utf8_valid_len-IsUtf8 _ c.in-Ok.ensures.cases.1
