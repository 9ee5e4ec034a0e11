use Rattle.std.proofs.Common.{[], ◌∷◌, drop}
use Rattle.od_syntax.specs.SurfaceMachine.{top, listed}
use Rattle.od_hop.proofs.Verdicts.{piece_choices}
use Rattle.od_hop.proofs.surface.surface_within.Goals as goal

pub returns-in_ok-all-clause-goes : goal.returns-in_ok-all-clause-goes
returns-in_ok-all-clause-goes c = piece_choices c.args.places c.in_ok-all.all c.piece_of.result (drop c.args.from c.args.lexemes.now) (drop c.in_ok-first.first.to c.args.lexemes.now) c.args.lexemes.now
    (listed (c.in_ok-first.first.pattern ∷ []) top) c.piece_of.ensures (c.in_ok-first.ensures.goes [] top) (c.in_ok-all.ensures.goes top)
