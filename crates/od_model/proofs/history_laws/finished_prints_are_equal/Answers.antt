use Rattle.od_model.proofs.Histories.Alike.{finished-agree, equal-rounds}
use Rattle.od_model.proofs.history_laws.finished_prints_are_equal.Goals as goal

pub returns-clause-finished : goal.returns-clause-finished
returns-clause-finished c = finished-agree

pub returns-clause-rounds : goal.returns-clause-rounds
returns-clause-rounds c = equal-rounds
