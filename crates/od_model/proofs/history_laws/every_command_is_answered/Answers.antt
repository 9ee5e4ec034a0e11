use Rattle.od_model.proofs.Histories.Answers.{answer, one-settles}
use Rattle.od_model.proofs.history_laws.every_command_is_answered.Goals as goal

pub returns-clause-answer : goal.returns-clause-answer
returns-clause-answer c = answer

pub returns-clause-settle : goal.returns-clause-settle
returns-clause-settle c = one-settles
