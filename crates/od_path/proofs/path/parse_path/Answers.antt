use Rattle.std.proofs.Common.{length}
use Rattle.od_syntax.specs.PathMachine.{top}
use Rattle.od_written.specs.Paths.{path_written}
use Rattle.od_written.proofs.PathEnds.{path_read}
use Rattle.od_path.proofs.Answers.{parsed_value, parsed_fault, only_value, only_fault, one_answer}
use Rattle.od_path.proofs.path.parse_path.Goals as goal

pub returns-clause-value : goal.returns-clause-value
returns-clause-value c = parsed_value (λ x. x.0) (λ x. x.1) c.path_and_place.result _ _ c.args.from c.args.lexemes.now c.depth_at.ensures (c.path_and_place.ensures.goes top) c.path_and_place.ensures.on

pub returns-clause-fault : goal.returns-clause-fault
returns-clause-fault c = parsed_fault (λ x. x.0) (λ x. x.1) c.path_and_place.result _ _ c.args.from c.args.lexemes.now c.depth_at.ensures c.requires (c.path_and_place.ensures.goes top)

pub returns-clause-only_value : goal.returns-clause-only_value
returns-clause-only_value c = only_value c.path_and_place.result _ c.args.from _ (returns-clause-value c) (returns-clause-fault c)

pub returns-clause-only_fault : goal.returns-clause-only_fault
returns-clause-only_fault c = only_fault c.path_and_place.result _ c.args.from _ (returns-clause-value c) (returns-clause-fault c)

pub returns-clause-one_answer : goal.returns-clause-one_answer
returns-clause-one_answer c = one_answer _ _ c.requires

pub returns-clause-reads_back : goal.returns-clause-reads_back
returns-clause-reads_back c = λ p x behind w e h keeps. returns-clause-only_value c p (length (path_written p)) (path_read _ p _ x behind w e h keeps)
