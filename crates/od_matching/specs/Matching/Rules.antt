-- The mentions of a rule on a sentence.
use Rattle.std.specs.Prelude.{ℕ, List, [], map, Option, Some, None}
use Rattle.od_matching.specs.Matching.Hops.{most_found, hop_lists, hop_count, last_of}
use Rattle.od_matching.specs.Matching.Events.{mention_of, event_mentions, event_count}
use Rattle.od_extraction.specs.Mentions.{distinct}
use Rattle.od_document.specs.declared.sentence.Sentence.{Sentence}
use Rattle.od_extraction.specs.declared.mention.Labelled.{Labelled}
use Rattle.od_extraction.specs.declared.mention.Match.{Match}
use Rattle.od_extraction.specs.declared.mention.Mention.{Mention}
use Rattle.od_pattern.specs.declared.rule.Rule.{Rule}
use Rattle.od_pattern.specs.declared.rule.Body.{Body}
use Rattle.od_pattern.specs.declared.rule.Body.TheVariants.{Basic, Event as EventBody}

-- a mention of the state, as a label with a span
abbrev pub labelled : Mention → Labelled
labelled m = record { label = m.label; span = record { start = m.start; end = m.end } }

-- a match as a mention of rule r, document d and sentence k, its captures being the parts
abbrev pub mention_at : Rule → ℕ → ℕ → Match → Mention
mention_at r d k m = mention_of r d k m []

-- the mentions, or the count that is too great
pub data RuleOutcome : Type 0 where
  mentions : List Mention → RuleOutcome
  crowded : ℕ → RuleOutcome

-- the count, where there is one
abbrev pub outcome_of : Option ℕ → List Mention → RuleOutcome
outcome_of None found = mentions found
outcome_of (Some count) found = crowded count

-- of a hop: its last list without repeats
abbrev pub hop_outcome : Rule → ℕ → ℕ → List (List Match) → RuleOutcome
hop_outcome r d k lists =
    outcome_of (hop_count most_found lists) (distinct (map (mention_at r d k) (last_of lists)))

-- by the two kinds of rule
abbrev pub body_outcome : Rule → ℕ → ℕ → Sentence → List Labelled → Body → RuleOutcome
body_outcome r d k s m (Basic h) = hop_outcome r d k (hop_lists h s m)
body_outcome r d k s m (EventBody e) =
    outcome_of (event_count most_found e s m) (event_mentions r d k e s m)

-- the mentions of rule r on sentence k of document d,
-- where `state` has the mentions of that sentence so far
unfoldable pub rule_mentions : Rule → ℕ → ℕ → Sentence → List Mention → RuleOutcome
rule_mentions r d k s state = body_outcome r d k s (map labelled state) r.body
