use Rattle.std.proofs.Common.{sym}
use Rattle.od_yaml.proofs.Lines.{strip_none}
use Rattle.od_yaml.proofs.line.strip_return.Goals as goal

pub returns-in-None : goal.returns-in-None
unfolding lib.Utf8.encode
returns-in-None c = sym (strip_none c.args.line.now c.in-None.ensures.cases)
