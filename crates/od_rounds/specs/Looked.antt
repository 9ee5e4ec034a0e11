-- Where a round looks, and what it meets there.
use Rattle.std.specs.Prelude.{ℕ, List, fold, flat_map, map}
use Rattle.std.specs.Option.{option_to_list}
use Rattle.od_extraction.specs.declared.mention.Match.{Match}
use Rattle.od_extraction.specs.declared.mention.Mention.{Mention}
use Rattle.od_extraction.specs.declared.mention.RoundResult.{RoundResult}
use Rattle.od_extraction.specs.declared.mention.RoundResult.TheVariants.{Found}
use Rattle.od_index.specs.Segments.{Stored}
use Rattle.od_index.specs.Sites.{Site}
use Rattle.od_index.specs.Views.{site_at}
use Rattle.od_matching.specs.Matching.Rules.{mention_at}
use Rattle.od_matching.specs.Rounds.Round.{Item, one, walked}
use Rattle.od_pattern.specs.declared.rule.Rule.{Rule}
use Rattle.od_segment.specs.Seen.{place_of}
use Rattle.od_segment.specs.declared.view.SentenceRef.{SentenceRef}

-- the sentence that a reference names, where there is one
abbrev pub site_named : List Stored → SentenceRef → List Site
site_named segments at = option_to_list (site_at segments (place_of at))

-- the sentences that references name
abbrev pub sites_named : List Stored → List SentenceRef → List Site
sites_named segments refs = flat_map (site_named segments) refs

-- a round that has found some mentions meets further items, against those that were known
abbrev pub walk_from : List Mention → List Mention → List Item → RoundResult
walk_from known found items = fold (walked known) (Found found) items

-- matches of a rule on a sentence of a document as what a round meets
abbrev pub items_made : Rule → ℕ → ℕ → List Match → List Item
items_made rule document sentence matches = map one (map (mention_at rule document sentence) matches)
