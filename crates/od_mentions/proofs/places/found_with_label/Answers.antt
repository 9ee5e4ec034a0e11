-- One place more.
use Rattle.std.proofs.Common.{◌++◌, sym, ap₂, ◌∙◌}
use Rattle.std.specs.Option.{option_to_list}
use Rattle.od_matching.specs.Rounds.States.{places_with}
use Rattle.od_mentions.proofs.Standing.{places_with-more}
use Rattle.od_mentions.proofs.places.found_with_label.Goals as goal

pub loop-place-preserved : goal.loop-place-preserved
loop-place-preserved c =
    c.in_ok-push_with_label.ensures
    ∙ ap₂ (λ xs o. xs ++ places_with c.args.label.now (option_to_list o)) c.loop-place.invariant c.mention_at.ensures
    ∙ sym (places_with-more c.args.mentions.now c.args.places.now c.loop-place.place-index c.args.label.now c.loop-place-test.true)
