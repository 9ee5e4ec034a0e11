use Rattle.od_stored.proofs.PairLaws.{pairs_again}
use Rattle.od_stored.proofs.stored_laws.reads_pairs_back.Goals as goal

pub returns : goal.returns
returns c = pairs_again
