use Rattle.od_syntax.proofs.Examples.{surface_examples, hop_examples, path_examples, event_examples, steps_examples}
use Rattle.od_syntax.proofs.syntax_laws.cases_are_computed.Goals as goal

pub returns-clause-surfaces : goal.returns-clause-surfaces
returns-clause-surfaces c = surface_examples

pub returns-clause-hops : goal.returns-clause-hops
returns-clause-hops c = hop_examples

pub returns-clause-paths : goal.returns-clause-paths
returns-clause-paths c = path_examples

pub returns-clause-events : goal.returns-clause-events
returns-clause-events c = event_examples

pub returns-clause-steps : goal.returns-clause-steps
returns-clause-steps c = steps_examples
