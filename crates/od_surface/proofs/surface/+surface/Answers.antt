use Rattle.od_surface.proofs.surface.+surface.Goals as goal

pub surface_atom-returns-in-SquareOpen-clause-goes : goal.surface_atom-returns-in-SquareOpen-clause-goes
surface_atom-returns-in-SquareOpen-clause-goes t c = λ a s k. c.token.ensures.goes _ _ c.in-Some.ensures.0 c.in-SquareOpen.is a s k
