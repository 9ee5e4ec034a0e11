use Rattle.std.proofs.Common.{Some, refl}
use Rattle.od_hop.proofs.Joins.{led_by, passed_on}
use Rattle.od_hop.proofs.surface.surface_behind.Goals as goal

pub returns-in-Ok-clause-goes : goal.returns-in-Ok-clause-goes
returns-in-Ok-clause-goes c = λ h p. led_by c.without_choices.result _ _ _ (c.in-Ok.ensures.goes (Some (h, p)) refl) (c.without_choices.ensures.goes c.args.again h p)

pub returns-in-Err-clause-goes : goal.returns-in-Err-clause-goes
returns-in-Err-clause-goes c = λ h p. passed_on c.in-Err.fault _ _ _ (c.in-Err.ensures.goes (Some (h, p)) refl)
