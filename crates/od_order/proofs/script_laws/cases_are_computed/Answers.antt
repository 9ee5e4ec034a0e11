use Rattle.od_order.proofs.Cases.{script_cases, fault_cases}
use Rattle.od_order.proofs.script_laws.cases_are_computed.Goals as goal

pub returns-clause-scripts : goal.returns-clause-scripts
returns-clause-scripts c = script_cases

pub returns-clause-faults : goal.returns-clause-faults
returns-clause-faults c = fault_cases
