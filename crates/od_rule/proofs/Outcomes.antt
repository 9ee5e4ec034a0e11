-- What a rule finds, by the two kinds of body.
use Rattle.std.proofs.Common.{◌≡◌, ℕ, List, map, sym, ◌∙◌, ap}
use Rattle.std.specs.Prelude.{None, Some}
use Rattle.od_document.specs.declared.sentence.Sentence.{Sentence}
use Rattle.od_extraction.specs.Mentions.{distinct}
use Rattle.od_extraction.specs.declared.mention.Labelled.{Labelled}
use Rattle.od_extraction.specs.declared.mention.Match.{Match}
use Rattle.od_extraction.specs.declared.mention.Mention.{Mention}
use Rattle.od_matching.specs.Matching.Events.{event_count, event_mentions}
use Rattle.od_matching.specs.Matching.Hops.{most_found, hop_lists, hop_count, last_of}
use Rattle.od_matching.specs.Matching.Rules.{body_outcome, crowded, labelled, mention_at, mentions, outcome_of, rule_mentions}
use Rattle.od_pattern.specs.declared.rule.Body.{Body}
use Rattle.od_pattern.specs.declared.rule.Body.TheVariants.{Basic, Event}
use Rattle.od_pattern.specs.declared.rule.EventRule.{EventRule}
use Rattle.od_pattern.specs.declared.rule.Hop.{Hop}
use Rattle.od_pattern.specs.declared.rule.Rule.{Rule}
use Rattle.od_rule.specs.Finding.{made}

module _ (r : Rule) (d k : ℕ) (s : Sentence) (state : List Mention) (m : List Labelled) (local : m ≡ map labelled state) where
  by_body : (b : Body) → r.body ≡ b → rule_mentions r d k s state ≡ body_outcome r d k s m b
  unfolding rule_mentions
  by_body b is = ap (λ z. body_outcome r d k s z r.body) (sym local) ∙ ap (body_outcome r d k s m) is

  pub hop_found : (h : Hop) (pairs : List Match) → r.body ≡ Basic h → hop_count most_found (hop_lists h s m) ≡ None
      → last_of (hop_lists h s m) ≡ pairs → rule_mentions r d k s state ≡ mentions (made r.body (map (mention_at r d k) pairs))
  hop_found h pairs is few found =
      by_body (Basic h) is
      ∙ ap (λ c. outcome_of c (distinct (map (mention_at r d k) (last_of (hop_lists h s m))))) few
      ∙ ap (λ z. mentions (distinct (map (mention_at r d k) z))) found
      ∙ ap (λ b. mentions (made b (map (mention_at r d k) pairs))) (sym is)

  pub hop_crowded : (h : Hop) (n : ℕ) → r.body ≡ Basic h → hop_count most_found (hop_lists h s m) ≡ Some n → rule_mentions r d k s state ≡ crowded n
  hop_crowded h n is many =
      by_body (Basic h) is ∙ ap (λ c. outcome_of c (distinct (map (mention_at r d k) (last_of (hop_lists h s m))))) many

  pub event_found : (e : EventRule) (left : List Match) → r.body ≡ Event e → event_count most_found e s m ≡ None
      → map (mention_at r d k) left ≡ event_mentions r d k e s m → rule_mentions r d k s state ≡ mentions (made r.body (map (mention_at r d k) left))
  event_found e left is few found =
      by_body (Event e) is
      ∙ ap (λ c. outcome_of c (event_mentions r d k e s m)) few
      ∙ ap mentions (sym found)
      ∙ ap (λ b. mentions (made b (map (mention_at r d k) left))) (sym is)

  pub event_crowded : (e : EventRule) (n : ℕ) → r.body ≡ Event e → event_count most_found e s m ≡ Some n → rule_mentions r d k s state ≡ crowded n
  event_crowded e n is many = by_body (Event e) is ∙ ap (λ c. outcome_of c (event_mentions r d k e s m)) many
