use Rattle.od_hop.proofs.Verdicts.{sized_tells, sized_fails}
use Rattle.od_hop.proofs.text.hop_of.Goals as goal

pub returns-in-Ok : goal.returns-in-Ok
returns-in-Ok c = sized_tells c.sized.result c.in-Ok.measured _ c.in-Ok.ensures.tells c.sized.ensures

pub returns-in-Err : goal.returns-in-Err
returns-in-Err c = sized_fails c.in-Err.fault _ c.in-Err.ensures.tells
