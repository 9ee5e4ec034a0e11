use Rattle.std.proofs.Common.{◌≤◌, ◌∙◌, fold, ap, arith}
use Rattle.od_extraction.specs.Mentions.{with_new}
use Rattle.od_extraction.specs.Weight.{weight, most_weight}
use Rattle.od_rounds.proofs.Fronts.{known-more, weight-fold}
use Rattle.od_rounds.proofs.Lists.{each-at}
use Rattle.od_rounds.proofs.resuming.known_of.Goals as goal

pub loop-place-preserved : goal.loop-place-preserved
loop-place-preserved c =
    let (known, light) = c.loop-place.invariant in
    let lists = c.args.lists.now in
    let place = c.loop-place.place in
    let list = c.list_at.result.now in
    let here : weight list ≤ most_weight = each-at (λ l. weight l ≤ most_weight) lists place list c.requires.light c.list_at.ensures in (
      c.in_ok-copy_all.ensures.ok ∙ ap (λ k. fold with_new k list) known ∙ known-more lists place list c.list_at.ensures,
      omega (arith, ap weight c.in_ok-copy_all.ensures.ok, weight-fold c.loop-place.known list, light, here),
    )
