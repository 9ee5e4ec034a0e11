use Rattle.od_model.proofs.Histories.Answers.{commands-decide}
use Rattle.od_model.proofs.history_laws.commands_decide_the_object.Goals as goal

pub returns : goal.returns
returns c = commands-decide
