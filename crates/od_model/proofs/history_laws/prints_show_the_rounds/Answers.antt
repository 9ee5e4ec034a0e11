use Rattle.od_model.proofs.Histories.Prints.{prints-rounds}
use Rattle.od_model.proofs.history_laws.prints_show_the_rounds.Goals as goal

pub returns : goal.returns
returns c = λ start heads es h. prints-rounds start heads es h.sound h.accepted h.legal
