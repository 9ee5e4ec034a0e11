use Rattle.std.proofs.Common.{refl}
use Rattle.od_path.proofs.steps.step_atom.Goals as goal

pub returns-in-RoundOpen-clause-goes : goal.returns-in-RoundOpen-clause-goes
returns-in-RoundOpen-clause-goes c = λ s. c.bracketed.ensures.goes c.in-Some.x.now c.in-Some.ensures.0 c.in-RoundOpen.is refl s
