use Rattle.od_matching.proofs.Matching.Derived.{within}
use Rattle.od_matching.proofs.Matching.Enclosed.{encloses}
use Rattle.od_matching.proofs.Matching.Scans.{same_choices, no_front}
use Rattle.od_matching.proofs.matching_laws.choices_decide.Goals as goal

pub returns-clause-same : goal.returns-clause-same
returns-clause-same c = same_choices

pub returns-clause-front : goal.returns-clause-front
returns-clause-front c = no_front

pub returns-clause-within : goal.returns-clause-within
returns-clause-within c = within

pub returns-clause-captures : goal.returns-clause-captures
returns-clause-captures c = encloses
