-- The mention stands at one of the places under its hash.
use Rattle.std.proofs.Common.{◌∙◌, ap, ap₂}
use Rattle.std.specs.List.{list_any}
use Rattle.od_extraction.specs.Mentions.{is_among}
use Rattle.od_mentions.specs.Places.{has_at}
use Rattle.od_mentions.proofs.Standing.{held}
use Rattle.od_mentions.proofs.state.State.holds_hashed.Goals as goal

pub returns : goal.returns
returns c =
    c.stands_at_one.ensures
    ∙ ap₂ (λ ms ps. list_any (has_at ms c.args.mention.now) ps) c.deref.ensures.value (c.at.ensures ∙ c.self.invariant.indexed.by_mention c.args.hash)
    ∙ held c.self.inside.mentions.items c.args.mention.now c.args.hash c.requires
    ∙ ap (λ ms. is_among ms c.args.mention.now) c.self.view_is
