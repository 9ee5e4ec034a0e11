use Rattle.std.proofs.Common.{length}
use Rattle.od_written.specs.Hops.{steps_written}
use Rattle.od_written.proofs.StepEnds.{steps_read}
use Rattle.od_path.proofs.StepAnswers.{parsed_value, parsed_fault, only_value, only_fault, one_steps}
use Rattle.od_path.proofs.steps.parse_steps.Goals as goal

pub returns-clause-value : goal.returns-clause-value
returns-clause-value c = parsed_value c.steps_and_place.result _ _ c.args.from c.args.lexemes.now c.depth_at.ensures c.steps_and_place.ensures.goes c.steps_and_place.ensures.on

pub returns-clause-fault : goal.returns-clause-fault
returns-clause-fault c = parsed_fault c.steps_and_place.result _ _ c.args.from c.args.lexemes.now c.depth_at.ensures c.requires c.steps_and_place.ensures.goes

pub returns-clause-only_value : goal.returns-clause-only_value
returns-clause-only_value c = only_value c.steps_and_place.result _ c.args.from _ (returns-clause-value c) (returns-clause-fault c)

pub returns-clause-only_fault : goal.returns-clause-only_fault
returns-clause-only_fault c = only_fault c.steps_and_place.result _ c.args.from _ (returns-clause-value c) (returns-clause-fault c)

pub returns-clause-one_answer : goal.returns-clause-one_answer
returns-clause-one_answer c = one_steps _ _ c.requires

pub returns-clause-reads_back : goal.returns-clause-reads_back
returns-clause-reads_back c = λ p x behind w e h keeps. returns-clause-only_value c p (length (steps_written p)) (steps_read _ p _ x behind w e h keeps)
