use Rattle.std.proofs.Common.{◌≡◌, ◌∙◌, sym, ap, Bool, length, rules}
use Rattle.od_constraint.specs.Rows.{joined, zipped}
use Rattle.od_constraint.proofs.RowLemmas.{written, zipped-long}
use Rattle.od_constraint.proofs.rows.joined_row.Goals as goal

pub returns : goal.returns
returns c =
    let old = c.args.truths in
    let f : Bool → Bool → Bool = joined c.args.both in
    let new : c.join.new.truths ≡ zipped f c.args.other.now old.items = c.join.ensures ∙ ap (zipped f c.args.other.now) c.deref_mut.ensures.value in
    let kept : old.len ≡ length old.items = search rules in
    written old.len c.join.new.truths old.items (kept ∙ sym (ap length new ∙ zipped-long f c.args.other.now old.items)) ∙ new
