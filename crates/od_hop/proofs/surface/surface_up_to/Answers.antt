use Rattle.std.proofs.Common.{refl}
use Rattle.od_hop.proofs.Verdicts.{up_to_goes}
use Rattle.od_hop.proofs.surface.surface_up_to.Goals as goal

pub returns-clause-goes : goal.returns-clause-goes
returns-clause-goes c = λ m e. up_to_goes c.args.again m (record { again = c.args.again; behind = c.place_of.result }) refl c.args.from c.surface_end-end.result _ c.args.lexemes.now c.args.narrow
    c.surface_within.result e c.surface_end-end.ensures.is c.surface_end-end.ensures.on.1 refl c.place_of.ensures c.surface_within.ensures.goes c.surface_within.ensures.on
