use Rattle.std.proofs.Common.{◌∙◌, take, fold, length, ap, arith}
use Rattle.od_extraction.specs.declared.mention.Mention.{Mention}
use Rattle.od_extraction.specs.Mentions.{with_new}
use Rattle.od_extraction.specs.Weight.{weight}
use Rattle.od_rounds.proofs.Fronts.{fold-more, weight-fold, weight-front}
use Rattle.od_rounds.proofs.moving.copy_all.Goals as goal

pub add-requires : goal.add-requires
add-requires c =
    let start = c.args.known.now in
    let mentions = c.args.mentions.now in
    let place = c.loop-place.place in
    let m = c.mention_at-mention.result.now in
    omega (arith, ap weight c.loop-place.invariant, weight-fold start (take place mentions), weight-front mentions place m c.mention_at-mention.ensures, ap (λ (x : Mention). length x.parts) c.in_ok-copy.ensures, c.requires)

pub loop-place-preserved : goal.loop-place-preserved
loop-place-preserved c =
    let start = c.args.known.now in
    let mentions = c.args.mentions.now in
    let place = c.loop-place.place in
    c.in_ok-add.ensures.ok
    ∙ ap (λ known. with_new known c.in_ok-copy.field-0) c.loop-place.invariant
    ∙ ap (with_new (fold with_new start (take place mentions))) c.in_ok-copy.ensures
    ∙ fold-more start mentions place c.mention_at-mention.result.now c.mention_at-mention.ensures
