use Rattle.od_turn.proofs.Own.{own_stay}
use Rattle.od_turn.proofs.laws.own_marks_stay.Goals as goal

pub returns : goal.returns
returns c = own_stay
