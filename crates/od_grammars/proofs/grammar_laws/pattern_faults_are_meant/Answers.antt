use Rattle.od_grammars.proofs.PatternFaults.{rule_faults_are_meant, query_faults_are_meant}
use Rattle.od_grammars.proofs.grammar_laws.pattern_faults_are_meant.Goals as goal

pub returns-clause-rules : goal.returns-clause-rules
returns-clause-rules c = rule_faults_are_meant

pub returns-clause-queries : goal.returns-clause-queries
returns-clause-queries c = query_faults_are_meant
