use Rattle.od_model.proofs.Histories.Again.{alike-across}
use Rattle.od_model.proofs.Histories.Alike.{finished-agree}
use Rattle.od_model.proofs.history_laws.resumed_sessions_print_the_same.Goals as goal

pub returns : goal.returns
returns c = λ one other h done done'. (finished-agree one other (alike-across one other h) done done').lines h.name
