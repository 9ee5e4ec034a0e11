use Rattle.od_model.proofs.Histories.Answers.{legal-goes-on}
use Rattle.od_model.proofs.Histories.Steps.{Legal-front}
use Rattle.od_model.proofs.history_laws.legal_histories_go_on.Goals as goal

pub returns-clause-more : goal.returns-clause-more
returns-clause-more c = legal-goes-on

pub returns-clause-front : goal.returns-clause-front
returns-clause-front c = Legal-front
