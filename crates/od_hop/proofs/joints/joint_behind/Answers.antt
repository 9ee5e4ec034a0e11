use Rattle.od_hop.proofs.Joins.{passed_on}
use Rattle.od_hop.proofs.joints.joint_behind.Goals as goal

pub returns-in-Ok-clause-goes : goal.returns-in-Ok-clause-goes
returns-in-Ok-clause-goes c = λ h. c.in-Ok.ensures.goes h c.args.steps.path

pub returns-in-Err-clause-goes : goal.returns-in-Err-clause-goes
returns-in-Err-clause-goes c = λ h. passed_on c.in-Err.fault _ _ _ (c.in-Err.ensures.goes h c.args.steps.path)
