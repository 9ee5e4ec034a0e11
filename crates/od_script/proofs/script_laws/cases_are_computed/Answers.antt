use Rattle.od_script.proofs.WrittenCases.{written_cases}
use Rattle.od_script.proofs.script_laws.cases_are_computed.Goals as goal

pub returns : goal.returns
returns c = written_cases
