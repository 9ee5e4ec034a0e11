use Rattle.od_lex.proofs.Answers.{parsed_value, parsed_fault, only_value, only_fault, one_answer, written_read}
use Rattle.std.proofs.Common.{length}
use Rattle.od_language.specs.Written.{written}
use Rattle.od_lex.proofs.constraint.parse_constraint.Goals as goal

pub returns-clause-value : goal.returns-clause-value
returns-clause-value c = parsed_value c.constraint_at.result _ _ c.args.from c.args.lexemes.now c.depth_at.ensures c.constraint_at.ensures.goes c.constraint_at.ensures.on

pub returns-clause-fault : goal.returns-clause-fault
returns-clause-fault c = parsed_fault c.constraint_at.result _ _ c.args.from c.args.lexemes.now c.depth_at.ensures c.requires c.constraint_at.ensures.goes

pub returns-clause-only_value : goal.returns-clause-only_value
returns-clause-only_value c = only_value c.constraint_at.result _ c.args.from _ (returns-clause-value c) (returns-clause-fault c)

pub returns-clause-only_fault : goal.returns-clause-only_fault
returns-clause-only_fault c = only_fault c.constraint_at.result _ c.args.from _ (returns-clause-value c) (returns-clause-fault c)

pub returns-clause-one_answer : goal.returns-clause-one_answer
returns-clause-one_answer c = one_answer _ _ c.requires

pub returns-clause-reads_back : goal.returns-clause-reads_back
returns-clause-reads_back c = λ w behind i e k. returns-clause-only_value c w (length (written w)) (written_read _ w _ behind i e k)
