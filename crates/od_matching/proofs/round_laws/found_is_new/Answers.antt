use Rattle.od_matching.proofs.Rounds.New.{found-distinct, found-new}
use Rattle.od_matching.proofs.round_laws.found_is_new.Goals as goal

pub returns-clause-distinct : goal.returns-clause-distinct
returns-clause-distinct c = found-distinct

pub returns-clause-new : goal.returns-clause-new
returns-clause-new c = found-new
