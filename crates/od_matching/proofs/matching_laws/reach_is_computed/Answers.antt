use Rattle.od_matching.proofs.Matching.Reaches.{reached_from}
use Rattle.od_matching.proofs.matching_laws.reach_is_computed.Goals as goal

pub returns : goal.returns
returns c = reached_from
