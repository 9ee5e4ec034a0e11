use Rattle.od_matching.proofs.Matching.Ascends.{are_candidates, same_candidates, few_candidates}
use Rattle.od_matching.proofs.matching_laws.candidates_ascend.Goals as goal

pub returns-clause-candidates : goal.returns-clause-candidates
returns-clause-candidates c = are_candidates

pub returns-clause-unique : goal.returns-clause-unique
returns-clause-unique c = same_candidates

pub returns-clause-few : goal.returns-clause-few
returns-clause-few c = few_candidates
