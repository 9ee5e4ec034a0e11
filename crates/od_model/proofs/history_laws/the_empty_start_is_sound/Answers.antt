use Rattle.od_model.proofs.Histories.Sound.{sound-nothing}
use Rattle.od_model.proofs.history_laws.the_empty_start_is_sound.Goals as goal

pub returns : goal.returns
returns c = sound-nothing
