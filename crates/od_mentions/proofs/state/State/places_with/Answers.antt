-- Those with a label stand at the places under its hash.
use Rattle.std.proofs.Common.{◌≡◌, subst, ap, ap₂, ◌∙◌, IfOk}
use Rattle.od_matching.specs.Rounds.States.{places_with}
use Rattle.od_mentions.specs.Places.{found_at}
use Rattle.od_mentions.proofs.Standing.{places_with-found}
use Rattle.od_mentions.proofs.state.State.places_with.Goals as goal

pub returns : goal.returns
returns c =
    subst (λ sentences. IfOk c.found_with_label.result (λ found. found.items ≡ sentences))
    (ap₂ (λ ms ps. places_with c.args.label.now (found_at ms ps)) c.deref.ensures.value (c.at-places.ensures ∙ c.self.invariant.indexed.by_label c.hash_label.result)
    ∙ places_with-found c.self.inside.mentions.items c.args.label.now c.hash_label.result c.hash_label.ensures
    ∙ ap (places_with c.args.label.now) c.self.view_is)
    c.found_with_label.ensures
