use Rattle.std.proofs.Common.{Ok, Err, drop}
use Rattle.od_syntax.specs.Told.{told}
use Rattle.od_hop.proofs.Joins.{steps_goes, led_by, passed_on}
use Rattle.od_hop.proofs.joints.joint_at.Goals as goal

pub returns-in-Ok-clause-goes : goal.returns-in-Ok-clause-goes
returns-in-Ok-clause-goes c = λ h. led_by c.joint_behind.result _ _ _ (steps_goes c.args.again h (Ok c.in-Ok.steps) (told (drop c.args.from c.args.lexemes.now)) c.args.lexemes.now c.in-Ok.ensures.goes)
    (c.joint_behind.ensures.goes h)

pub returns-in-Err-clause-goes : goal.returns-in-Err-clause-goes
returns-in-Err-clause-goes c = λ h. passed_on c.in-Err.fault _ _ _ (steps_goes c.args.again h (Err c.in-Err.fault) (told (drop c.args.from c.args.lexemes.now)) c.args.lexemes.now c.in-Err.ensures.goes)
