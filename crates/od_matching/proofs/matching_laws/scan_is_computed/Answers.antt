use Rattle.od_matching.proofs.Matching.Scans.{scans_of, same_scans}
use Rattle.od_matching.proofs.matching_laws.scan_is_computed.Goals as goal

pub returns-clause-computed : goal.returns-clause-computed
returns-clause-computed c = scans_of

pub returns-clause-unique : goal.returns-clause-unique
returns-clause-unique c = same_scans
