use Rattle.od_matching.proofs.Rounds.States.{one-list, sentences-computed}
use Rattle.od_matching.proofs.round_laws.sentences_are_unique.Goals as goal

pub returns-clause-one : goal.returns-clause-one
returns-clause-one c = one-list

pub returns-clause-computed : goal.returns-clause-computed
returns-clause-computed c = sentences-computed
