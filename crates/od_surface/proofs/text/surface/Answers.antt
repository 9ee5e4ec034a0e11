use Rattle.std.proofs.Common.{[], ◌∷◌, drop}
use Rattle.od_syntax.specs.SurfaceMachine.{top, listed}
use Rattle.od_surface.proofs.Verdicts.{whole_goes}
use Rattle.od_surface.proofs.text.surface.Goals as goal

pub returns-then-is_or-clause-goes : goal.returns-then-is_or-clause-goes
returns-then-is_or-clause-goes c = whole_goes c.args.places c.more_choices.result c.args.lexemes.now (drop c.in_ok-first.first.to c.args.lexemes.now) c.args.lexemes.now
    (listed (c.in_ok-first.first.pattern ∷ []) top) (c.in_ok-first.ensures.goes [] top) (c.more_choices.ensures.goes top)
