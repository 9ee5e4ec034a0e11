use Rattle.std.proofs.Common.{◌∙◌, ap, sym, Some}
use Rattle.od_constraint.proofs.HitLemmas.{edge_at}
use Rattle.od_constraint.proofs.rows.edge_fits.Goals as goal

pub returns : goal.returns
returns c = λ value h.
    edge_at c.args.sentence.now.table c.args.sentence.now.sentence.edges value c.args.hits.now c.args.place c.edge-ends.result.0 c.edge-ends.result.1 c.edge-ends.result.2 h c.edge-ends.ensures
    ∙ ap Some (sym c.has.ensures)
