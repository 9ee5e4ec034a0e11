use Rattle.od_lex.proofs.Moves.{leads_on, square_in}
use Rattle.od_lex.proofs.constraint.bracketed.Goals as goal

pub returns-else-depth-ge-OPEN_BRACKETS-clause-goes : goal.returns-else-depth-ge-OPEN_BRACKETS-clause-goes
returns-else-depth-ge-OPEN_BRACKETS-clause-goes c = leads_on c.inside.result _ _ _
    (square_in c.args.depth _ _ c.in-Some.x.now c.in-Some.ensures.0 c.in-SquareOpen.is c.if-depth-ge-OPEN_BRACKETS.false) c.inside.ensures.goes
