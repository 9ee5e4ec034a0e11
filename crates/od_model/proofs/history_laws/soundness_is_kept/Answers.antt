use Rattle.od_model.proofs.Histories.Sound.{sound-after}
use Rattle.od_model.proofs.history_laws.soundness_is_kept.Goals as goal

pub returns : goal.returns
returns c = λ start heads es h. sound-after start heads h.accepted es h.sound h.legal
