use Rattle.std.proofs.Common.{None, refl}
use Rattle.od_hop.proofs.Joins.{led_by, passed_on}
use Rattle.od_hop.proofs.joints.hop_read.Goals as goal

pub returns-in-Ok-clause-goes : goal.returns-in-Ok-clause-goes
returns-in-Ok-clause-goes c = led_by c.rest_of.result _ _ _ (c.in-Ok.ensures.goes None refl) c.rest_of.ensures.goes

pub returns-in-Err-clause-goes : goal.returns-in-Err-clause-goes
returns-in-Err-clause-goes c = passed_on c.in-Err.fault _ _ _ (c.in-Err.ensures.goes None refl)
