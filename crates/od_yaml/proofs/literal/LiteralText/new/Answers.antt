use Rattle.od_yaml.proofs.Literals.{none_held}
use Rattle.od_yaml.proofs.literal.LiteralText.new.Goals as goal

pub returns : goal.returns
returns c n ws = rw (c.new.ensures.bytes, c.new-2.ensures.bytes) (none_held n ws)
