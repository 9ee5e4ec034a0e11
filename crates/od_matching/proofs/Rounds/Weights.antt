-- What mentions weigh, one by one.
use Rattle.std.proofs.Common.{◌≡◌, ℕ, ◌+◌, ◌≤◌, List, [], ◌∷◌, ◌++◌, fold, Bool, true, false, cond, refl, sym, ap, ◌∙◌, subst, append_assoc, append-nil, arith}
use Rattle.std.specs.Prelude.{nat_lt, length}
use Rattle.std.proofs.lemmas.Bool.{ltb-false}
use Rattle.std.proofs.lemmas.List.Sums.{sum_by-append, sum_by-cons}
use Rattle.od_document.specs.declared.doc.Doc.{Doc}
use Rattle.od_pattern.specs.declared.grammar.Grammar.{Grammar}
use Rattle.od_extraction.specs.declared.mention.Mention.{Mention}
use Rattle.od_extraction.specs.declared.mention.RoundResult.{RoundResult}
use Rattle.od_extraction.specs.declared.mention.RoundResult.TheVariants.{Found, Crowded, TooMany}
use Rattle.od_extraction.specs.Mentions.{is_among, distinct}
use Rattle.od_extraction.specs.Weight.{weight, most_weight}
use Rattle.od_matching.specs.Rounds.Round.{Item, one, crowd, items, weighed, walked, walk, round_over, round}

-- two lists weigh as much as both
pub weight-append : (xs ys : List Mention) → weight (xs ++ ys) ≡ weight xs + weight ys
weight-append xs ys = sum_by-append (λ (m : Mention). 1 + length m.parts) xs ys

-- no list has more mentions than it weighs
pub length-le-weight : (ms : List Mention) → length ms ≤ weight ms
length-le-weight [] = omega arith
length-le-weight (m ∷ ms) = omega (arith, length-le-weight ms, sum_by-cons (λ (x : Mention). 1 + length x.parts) m ms)

-- a mention more weighs one and the number of its parts more
pub weight-more : (old new : List Mention) (m : Mention) → weight (old ++ (new ++ m ∷ [])) ≡ weight (old ++ new) + (1 + length m.parts)
weight-more old new m = ap weight (sym (append_assoc old new (m ∷ []))) ∙ weight-append (old ++ new) (m ∷ []) ∙ (omega arith)

-- what is found so far does not weigh too much with the old mentions, where they do not
abbrev pub IsLight : List Mention → RoundResult → Type 0
IsLight old (Found new) = weight (old ++ new) ≤ most_weight
IsLight old (Crowded rule document sentence count) = Unit {0}
IsLight old (TooMany total) = Unit {0}

-- one that is weighed
light-weighed : (old new : List Mention) (m : Mention) (b : Bool) → nat_lt most_weight (weight (old ++ (new ++ m ∷ []))) ≡ b
    → IsLight old (cond b (TooMany (weight (old ++ (new ++ m ∷ [])))) (Found (new ++ m ∷ [])))
light-weighed old new m true e = tt
light-weighed old new m false e = ltb-false most_weight (weight (old ++ (new ++ m ∷ []))) e

-- one mention more
light-one : (old new : List Mention) (m : Mention) (b : Bool) → IsLight old (Found new) → IsLight old (cond b (Found new) (weighed old new m))
light-one old new m true h = h
light-one old new m false h = light-weighed old new m (nat_lt most_weight (weight (old ++ (new ++ m ∷ [])))) refl

-- one item more
light-walked : (old : List Mention) (r : RoundResult) (x : Item) → IsLight old r → IsLight old (walked old r x)
light-walked old (Found new) (one m) h = light-one old new m (is_among (old ++ new) m) h
light-walked old (Found new) (crowd c) h = tt
light-walked old (Crowded rule document sentence count) x h = tt
light-walked old (TooMany total) x h = tt

-- all items
light-all : (old : List Mention) (r : RoundResult) (xs : List Item) → IsLight old r → IsLight old (fold (walked old) r xs)
light-all old r [] h = h
light-all old r (x ∷ xs) h = light-all old (walked old r x) xs (light-walked old r x h)

-- a whole round
round-light : (docs : List Doc) (g : Grammar) (r : ℕ) (old : List Mention) → distinct old ≡ old → weight old ≤ most_weight → IsLight old (round docs g r old)
unfolding round_over
round-light docs g r old d h =
    let light : IsLight old (Found []) = subst (λ l. weight l ≤ most_weight) (sym (append-nil old)) h in
    subst (λ l. IsLight old (walk docs g r l)) (sym d) (light-all old (Found []) (items docs g r old) light)

-- mentions that do not weigh too much do not after a round
pub weight-stays : (docs : List Doc) (g : Grammar) (r : ℕ) (old new : List Mention) → distinct old ≡ old → weight old ≤ most_weight → round docs g r old ≡ Found new
    → weight (old ++ new) ≤ most_weight
weight-stays docs g r old new d h e = subst (IsLight old) e (round-light docs g r old d h)
