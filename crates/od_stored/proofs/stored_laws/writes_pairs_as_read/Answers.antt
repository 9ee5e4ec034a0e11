use Rattle.od_stored.proofs.PairLaws.{pairs_taken}
use Rattle.od_stored.proofs.stored_laws.writes_pairs_as_read.Goals as goal

pub returns : goal.returns
returns c = pairs_taken
