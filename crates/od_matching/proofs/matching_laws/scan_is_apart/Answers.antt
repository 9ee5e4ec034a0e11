use Rattle.od_matching.proofs.Matching.Apart.{scan-apart, scan-short}
use Rattle.od_matching.proofs.matching_laws.scan_is_apart.Goals as goal

pub returns-clause-apart : goal.returns-clause-apart
returns-clause-apart c = scan-apart

pub returns-clause-short : goal.returns-clause-short
returns-clause-short c = scan-short
