use Rattle.od_matching.proofs.Rounds.Stands.{round-is-next, standing-goes-on, phase-is-at, met-in-state}
use Rattle.od_matching.proofs.round_laws.standing_decides.Goals as goal

pub returns-clause-round : goal.returns-clause-round
returns-clause-round c = round-is-next

pub returns-clause-next : goal.returns-clause-next
returns-clause-next c = standing-goes-on

pub returns-clause-phase : goal.returns-clause-phase
returns-clause-phase c = phase-is-at

pub returns-clause-met : goal.returns-clause-met
returns-clause-met c = met-in-state
