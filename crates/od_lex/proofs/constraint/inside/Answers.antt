use Rattle.od_lex.proofs.Moves.{leads_on, first_in}
use Rattle.od_lex.proofs.constraint.inside.Goals as goal

pub returns-in_default-clause-goes : goal.returns-in_default-clause-goes
returns-in_default-clause-goes c = leads_on c.filled.result _ _ _
    (first_in c.args.depth _ _ c.in-Some.x.now c.in-Some.ensures.0 c.in_default.not-SquareClose) c.filled.ensures.goes
