use Rattle.od_model.proofs.Histories.Alike.{later-goes-on}
use Rattle.od_model.proofs.history_laws.later_prints_go_on.Goals as goal

pub returns : goal.returns
returns c = later-goes-on
