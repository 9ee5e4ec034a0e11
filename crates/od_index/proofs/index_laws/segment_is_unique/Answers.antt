use Rattle.od_index.proofs.Segments.{one-segment, segment-is}
use Rattle.od_index.proofs.index_laws.segment_is_unique.Goals as goal

pub returns-clause-one : goal.returns-clause-one
returns-clause-one c = one-segment

pub returns-clause-computed : goal.returns-clause-computed
returns-clause-computed c = segment-is
