-- What the mentions of a session keep through a round.
use Rattle.std.proofs.Common.{◌≡◌, ◌+◌, ◌≤◌, List, [], ◌∷◌, ◌++◌, length, take, sym, ap, ◌∙◌, subst, append-nil, arith}
use Rattle.od_document.specs.declared.doc.Doc.{Doc}
use Rattle.od_extraction.specs.declared.mention.Mention.{Mention}
use Rattle.od_extraction.specs.declared.mention.RoundResult.TheVariants.{Found}
use Rattle.od_session.specs.declared.object.SessionState.{SessionState}
use Rattle.od_extraction.specs.Mentions.{distinct}
use Rattle.od_extraction.specs.Weight.{weight, most_weight}
use Rattle.od_extraction.specs.Joined.{joined}
use Rattle.od_session.specs.Parts.{grammar_at, round_at}
use Rattle.od_matching.proofs.Rounds.Joined.{joined-snoc, weight-after}
use Rattle.od_matching.proofs.Rounds.Walks.{distinct-stays}
use Rattle.od_matching.proofs.Rounds.Weights.{weight-stays, length-le-weight}

module _ (docs : List Doc) (s : SessionState) (new : List Mention) (found : round_at docs s ≡ Found new) (d : distinct (joined s.rounds) ≡ joined s.rounds) where
  -- mentions without repeats stay so
  pub distinct-after : distinct (joined (s.rounds ++ new ∷ [])) ≡ joined (s.rounds ++ new ∷ [])
  distinct-after =
      ap distinct (joined-snoc s.rounds new)
      ∙ distinct-stays (take s.documents docs) (grammar_at s) (length s.rounds + 1) (joined s.rounds) new d found
      ∙ sym (joined-snoc s.rounds new)

  -- mentions that do not weigh too much do not afterwards
  pub light-after : weight (joined s.rounds) ≤ most_weight → weight (joined (s.rounds ++ new ∷ [])) ≤ most_weight
  light-after h =
      subst (λ l. weight l ≤ most_weight) (sym (joined-snoc s.rounds new)) (weight-stays (take s.documents docs) (grammar_at s) (length s.rounds + 1) (joined s.rounds) new d h found)

  -- nor do those that are new
  pub light-new : weight (joined s.rounds) ≤ most_weight → weight new ≤ most_weight
  light-new h = omega (arith, light-after h, weight-after s.rounds new)

  -- which are not more than they may weigh
  pub few-new : weight (joined s.rounds) ≤ most_weight → length new ≤ most_weight
  few-new h = omega (arith, light-new h, length-le-weight new)
