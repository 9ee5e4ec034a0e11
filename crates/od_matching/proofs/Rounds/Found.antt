-- What a round finds lies in the documents, and does not weigh too much.
use Rattle.std.proofs.Common.{◌≡◌, ℕ, List, [], ◌∷◌, ◌++◌, fold, Bool, true, false, cond, ◌≤◌, ltb-false, arith, refl, subst}
use Rattle.std.specs.Prelude.{nat_lt}
use Rattle.od_document.specs.declared.doc.Doc.{Doc}
use Rattle.od_pattern.specs.declared.grammar.Grammar.{Grammar}
use Rattle.od_extraction.specs.declared.mention.Mention.{Mention}
use Rattle.od_extraction.specs.declared.mention.RoundResult.{RoundResult}
use Rattle.od_extraction.specs.declared.mention.RoundResult.TheVariants.{Found, Crowded, TooMany}
use Rattle.od_text.specs.Lists.{Each}
use Rattle.od_extraction.specs.Mentions.{is_among, distinct}
use Rattle.od_extraction.specs.Spans.{LiesIn}
use Rattle.od_extraction.specs.Weight.{weight, most_weight}
use Rattle.od_matching.specs.Rounds.Round.{Item, one, crowd, items, weighed, walked, round_over, round}
use Rattle.od_matching.proofs.Rounds.Weights.{weight-append}
use Rattle.od_matching.proofs.Rounds.Lying.{ResultLies, round-lies}

-- what is found weighs no more than the most
abbrev IsLight : RoundResult → Type 0
IsLight (Found new) = weight new ≤ most_weight
IsLight (Crowded rule document sentence count) = Unit {0}
IsLight (TooMany total) = Unit {0}

module _ (old : List Mention) where
  light-weighed : (new : List Mention) (m : Mention) (b : Bool) → nat_lt most_weight (weight (old ++ (new ++ m ∷ []))) ≡ b → IsLight (cond b (TooMany (weight (old ++ (new ++ m ∷ [])))) (Found (new ++ m ∷ [])))
  light-weighed new m true e = tt
  light-weighed new m false e =
      let all = ltb-false most_weight (weight (old ++ (new ++ m ∷ []))) e in
      omega (arith, all, weight-append old (new ++ m ∷ []))

  light-one : (new : List Mention) (m : Mention) (b : Bool) → IsLight (Found new) → IsLight (cond b (Found new) (weighed old new m))
  light-one new m true h = h
  light-one new m false h = light-weighed new m (nat_lt most_weight (weight (old ++ (new ++ m ∷ [])))) refl

  light-walked : (r : RoundResult) (x : Item) → IsLight r → IsLight (walked old r x)
  light-walked (Found new) (one m) h = light-one new m (is_among (old ++ new) m) h
  light-walked (Found new) (crowd c) h = tt
  light-walked (Crowded rule document sentence count) x h = tt
  light-walked (TooMany total) x h = tt

  light-all : (r : RoundResult) (xs : List Item) → IsLight r → IsLight (fold (walked old) r xs)
  light-all r [] h = h
  light-all r (x ∷ xs) h = light-all (walked old r x) xs (light-walked r x h)

round-light : (docs : List Doc) (g : Grammar) (r : ℕ) (old : List Mention) → IsLight (round docs g r old)
unfolding round_over
round-light docs g r old = light-all (distinct old) (Found []) (items docs g r (distinct old)) (omega arith)

-- what a round finds lies in the documents, and does not weigh too much
pub round-found : (docs : List Doc) (g : Grammar) (r : ℕ) (old new : List Mention) → round docs g r old ≡ Found new → Each (LiesIn docs) new × (weight new ≤ most_weight)
round-found docs g r old new e = (subst (ResultLies docs) e (round-lies docs g r old), subst IsLight e (round-light docs g r old))
