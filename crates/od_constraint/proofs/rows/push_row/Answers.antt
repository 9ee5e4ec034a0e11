use Rattle.std.proofs.Common.{◌∙◌, ap}
use Rattle.od_constraint.specs.Rows.{stacked}
use Rattle.od_constraint.proofs.StackLemmas.{on_ok, stacked_more}
use Rattle.od_constraint.proofs.rows.push_row.Goals as goal

pub returns : goal.returns
returns c = on_ok c.push.result _ _ (λ e. ap stacked e ∙ stacked_more c.args.rows.now.items c.args.top) c.push.ensures
