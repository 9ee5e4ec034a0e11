use Rattle.std.proofs.Common.{◌∙◌, ap, Some}
use Rattle.od_constraint.proofs.MarkLemmas.{marks_fit, marks_none}
use Rattle.od_constraint.proofs.rows.mark.Goals as goal

pub returns-then-edge_fits-clause-marks : goal.returns-then-edge_fits-clause-marks
returns-then-edge_fits-clause-marks c = λ was value h.
    marks_fit c.args.outgoing value c.args.sentence.now.sentence.edges c.args.place _ c.end_at-end.result c.args.ends.now c.end_at-end.ensures.end
    (c.edge_fits.ensures value h ∙ ap Some c.if-edge_fits.true) c.end_at-end.ensures.within (was value h)

pub returns-else-edge_fits-clause-marks : goal.returns-else-edge_fits-clause-marks
returns-else-edge_fits-clause-marks c = λ was value h.
    marks_none c.args.outgoing value c.args.sentence.now.sentence.edges c.args.place _ c.args.ends.now (c.edge_fits.ensures value h ∙ ap Some c.if-edge_fits.false) (was value h)
