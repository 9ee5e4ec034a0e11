use Rattle.od_constraint.proofs.PlaceLemmas.{no_names}
use Rattle.od_constraint.proofs.places.Places.new.Goals as goal

pub returns : goal.returns
returns c = record { stand = no_names c.new.result c.new-2.result.items c.new.ensures c.new-2.ensures.items; all = tt }
