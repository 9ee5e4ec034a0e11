use Rattle.od_syntax.proofs.Steps.Answer.{steps_have_one_answer}
use Rattle.od_syntax.proofs.syntax_laws.steps_have_one_answer.Goals as goal

pub returns : goal.returns
returns c = steps_have_one_answer
