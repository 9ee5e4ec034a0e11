use Rattle.od_matching.proofs.Rounds.Kept.{seen-is-round}
use Rattle.od_matching.proofs.round_laws.seen_is_scanned.Goals as goal

pub returns : goal.returns
returns c = seen-is-round
