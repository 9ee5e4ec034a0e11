use Rattle.od_matching.proofs.Rounds.States.{states-grow, weight-grows}
use Rattle.od_matching.proofs.round_laws.states_grow.Goals as goal

pub returns-clause-state : goal.returns-clause-state
returns-clause-state c = states-grow

pub returns-clause-weight : goal.returns-clause-weight
returns-clause-weight c = weight-grows
