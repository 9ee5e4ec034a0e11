use Rattle.od_index.proofs.Counts.{segment-small}
use Rattle.od_index.proofs.index_laws.segments_are_small.Goals as goal

pub returns : goal.returns
returns c = segment-small
