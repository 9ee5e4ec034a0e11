use Rattle.od_matching.proofs.Rounds.Kept.{nothing-outside, kept-is-round, all-opened}
use Rattle.od_matching.proofs.round_laws.candidates_suffice.Goals as goal

pub returns-clause-items : goal.returns-clause-items
returns-clause-items c = nothing-outside

pub returns-clause-round : goal.returns-clause-round
returns-clause-round c = kept-is-round

pub returns-clause-openings : goal.returns-clause-openings
returns-clause-openings c = all-opened
