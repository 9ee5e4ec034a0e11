-- One place more.
use Rattle.std.proofs.Common.{◌++◌, sym, ap₂, ◌∙◌}
use Rattle.std.specs.Option.{option_to_list}
use Rattle.od_matching.specs.Rounds.Round.{in_sentence}
use Rattle.od_mentions.proofs.Standing.{in_sentence-more}
use Rattle.od_mentions.proofs.places.found_in_sentence.Goals as goal

pub loop-place-preserved : goal.loop-place-preserved
loop-place-preserved c =
    c.in_ok-push_in_sentence.ensures
    ∙ ap₂ (λ xs o. xs ++ in_sentence c.args.document c.args.sentence (option_to_list o)) c.loop-place.invariant c.mention_at.ensures
    ∙ sym (in_sentence-more c.args.mentions.now c.args.places.now c.loop-place.place-index c.args.document c.args.sentence c.loop-place-test.true)
