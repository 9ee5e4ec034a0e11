use Rattle.od_order.proofs.Few.{scripts_are_few}
use Rattle.od_order.proofs.script_laws.scripts_are_few.Goals as goal

pub returns : goal.returns
returns c = scripts_are_few
