use Rattle.std.proofs.Common.{refl}
use Rattle.od_lex.proofs.Answers.{parsed_value, parsed_fault}
use Rattle.od_lex.proofs.constraint.constraint_at.Goals as goal

pub returns-clause-value : goal.returns-clause-value
returns-clause-value c = parsed_value c.bracketed.result _ _ c.args.from c.args.lexemes.now refl c.bracketed.ensures.goes c.bracketed.ensures.on

pub returns-clause-fault : goal.returns-clause-fault
returns-clause-fault c = λ w. parsed_fault c.bracketed.result _ _ c.args.from c.args.lexemes.now refl w c.bracketed.ensures.goes
