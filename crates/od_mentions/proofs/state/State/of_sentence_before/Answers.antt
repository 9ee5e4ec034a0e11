-- Those of a sentence stand at the places under its hash.
use Rattle.std.proofs.Common.{◌≡◌, map, take, subst, ap, ap₂, ◌∙◌, IfOk}
use Rattle.od_matching.specs.Rounds.Round.{in_sentence}
use Rattle.od_mentions.specs.Places.{found_at}
use Rattle.od_mentions.proofs.Standing.{in_sentence-found}
use Rattle.od_mentions.proofs.state.State.of_sentence_before.Goals as goal

pub returns : goal.returns
returns c =
    subst (λ ms. IfOk c.found_in_sentence.result (λ found. map (λ m. m.now) found.items ≡ ms))
    (ap₂ (λ ms ps. in_sentence c.args.document c.args.sentence (found_at (take c.args.count ms) ps)) c.deref.ensures.value (c.at-places.ensures ∙ c.self.invariant.indexed.by_sentence c.hash_sentence.result)
    ∙ in_sentence-found c.self.inside.mentions.items c.args.count c.args.document c.args.sentence c.hash_sentence.result c.hash_sentence.ensures
    ∙ ap (λ ms. in_sentence c.args.document c.args.sentence (take c.args.count ms)) c.self.view_is)
    c.found_in_sentence.ensures
