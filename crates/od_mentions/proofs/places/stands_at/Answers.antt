-- What stands at the place is compared.
use Rattle.std.proofs.Common.{ap, ◌∙◌}
use Rattle.od_extraction.proofs.Tests.{same_mention-from_iff}
use Rattle.od_mentions.specs.Places.{is_same}
use Rattle.od_mentions.proofs.places.stands_at.Goals as goal

pub returns-in-Some : goal.returns-in-Some
returns-in-Some c = same_mention-from_iff _ _ _ c.same.ensures ∙ ap (is_same c.args.mention.now) c.in-Some.ensures
