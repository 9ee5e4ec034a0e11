use Rattle.od_model.proofs.Histories.Again.{alike-in-one, alike-across}
use Rattle.od_model.proofs.history_laws.prints_of_one_session_are_alike.Goals as goal

pub returns-clause-history : goal.returns-clause-history
returns-clause-history c = alike-in-one

pub returns-clause-starts : goal.returns-clause-starts
returns-clause-starts c = alike-across
