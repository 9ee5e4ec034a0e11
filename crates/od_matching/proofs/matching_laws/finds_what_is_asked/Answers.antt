use Rattle.od_matching.proofs.Matching.Depends.{same_scan, same_reach, same_outcome, same_state}
use Rattle.od_matching.proofs.matching_laws.finds_what_is_asked.Goals as goal

pub returns-clause-scan : goal.returns-clause-scan
returns-clause-scan c = same_scan

pub returns-clause-reach : goal.returns-clause-reach
returns-clause-reach c = same_reach

pub returns-clause-rule : goal.returns-clause-rule
returns-clause-rule c = same_outcome

pub returns-clause-state : goal.returns-clause-state
returns-clause-state c = same_state
