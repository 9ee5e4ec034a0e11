use Rattle.od_grammars.proofs.Examples.{file_examples, query_examples, fault_examples}
use Rattle.od_grammars.proofs.grammar_laws.cases_are_computed.Goals as goal

pub returns-clause-files : goal.returns-clause-files
returns-clause-files c = file_examples

pub returns-clause-queries : goal.returns-clause-queries
returns-clause-queries c = query_examples

pub returns-clause-faults : goal.returns-clause-faults
returns-clause-faults c = fault_examples
