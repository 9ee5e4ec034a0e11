use Rattle.od_matching.proofs.Matching.Scans.{one_best, best_exists}
use Rattle.od_matching.proofs.matching_laws.best_is_unique.Goals as goal

pub returns-clause-unique : goal.returns-clause-unique
returns-clause-unique c = one_best

pub returns-clause-exists : goal.returns-clause-exists
returns-clause-exists c = best_exists
