use Rattle.od_need.specs.Needs.{need_of}
use Rattle.od_rounds.proofs.rules.refs_of.Goals as goal

pub returns : goal.returns
returns c = c.candidates.ensures (need_of c.args.rule.now) c.requires.meant
