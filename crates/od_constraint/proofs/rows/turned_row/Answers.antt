use Rattle.std.proofs.Common.{◌≡◌, ◌∙◌, sym, ap, map, length, not, rules}
use Rattle.std.proofs.lemmas.List.{length-map}
use Rattle.od_constraint.proofs.RowLemmas.{written}
use Rattle.od_constraint.proofs.rows.turned_row.Goals as goal

pub returns : goal.returns
returns c =
    let old = c.args.truths in
    let new : c.turn.new.truths ≡ map not old.items = c.turn.ensures ∙ ap (map not) c.deref_mut.ensures.value in
    let kept : old.len ≡ length old.items = search rules in
    written old.len c.turn.new.truths old.items (kept ∙ sym (ap length new ∙ length-map old.items not)) ∙ new
