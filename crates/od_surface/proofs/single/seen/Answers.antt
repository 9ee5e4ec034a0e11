use Rattle.od_surface.proofs.single.seen.Goals as goal

pub returns-in-SquareOpen-clause-goes : goal.returns-in-SquareOpen-clause-goes
returns-in-SquareOpen-clause-goes c = c.constraint_seen.ensures.goes _ _ c.in-Some.ensures.0 c.in-SquareOpen.is
