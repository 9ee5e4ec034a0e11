use Rattle.std.proofs.Common.{◌≡◌, ◌∙◌, replicate, rules}
use Rattle.std.specs.List.{range_with_len}
use Rattle.std.proofs.lemmas.Simd.{splat_is_map}
use Rattle.std.proofs.lemmas.List.FromFn.{length-range_with_len}
use Rattle.od_constraint.proofs.rows.same_row.Goals as goal

pub returns : goal.returns
returns c =
    let same : c.in_ok-same.same.items ≡ replicate c.args.len c.args.truth = search rules in
    same ∙ splat_is_map (range_with_len 0 c.args.len) c.args.len c.args.truth (length-range_with_len 0 c.args.len)
