use Rattle.std.proofs.Common.{◌∙◌, ap, set}
use Rattle.od_constraint.specs.Rows.{joined}
use Rattle.od_constraint.proofs.RowLemmas.{zipped-step, zipped-past}
use Rattle.od_constraint.proofs.rows.join_at.Goals as goal

pub returns-then-place-other : goal.returns-then-place-other
returns-then-place-other c = λ first e.
    ap (set c.args.truths.now c.args.place) c.join_one.ensures
    ∙ zipped-step (joined c.args.both) c.args.place c.args.other.now first c.args.truths.now c.if-place-other.true c.requires e

pub returns-else-place-other : goal.returns-else-place-other
returns-else-place-other c = λ first e. e ∙ zipped-past (joined c.args.both) c.args.place c.args.other.now first c.if-place-other.false
