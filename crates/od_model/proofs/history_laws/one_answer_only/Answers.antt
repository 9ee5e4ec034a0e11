use Rattle.od_model.proofs.Histories.Answers.{one-answer, one-effect}
use Rattle.od_model.proofs.history_laws.one_answer_only.Goals as goal

pub returns-clause-reply : goal.returns-clause-reply
returns-clause-reply c = one-answer

pub returns-clause-effect : goal.returns-clause-effect
returns-clause-effect c = one-effect
