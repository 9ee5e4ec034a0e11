-- What the rules of a session lead to is its next round.
use Rattle.std.proofs.Common.{◌≡◌, ℕ, ◌+◌, ◌≤◌, List, [], ◌∷◌, ◌++◌, length, take, fold, flat_map, Bool, true, false, cond, refl, sym, ap, ◌∙◌, subst, arith, append-nil, ◌⊎◌, inl, inr}
use Rattle.std.specs.List.{enumerate_from, sum_by}
use Rattle.std.specs.Prelude.{nat_lt}
use Rattle.std.proofs.lemmas.Bool.{ltb-false}
use Rattle.std.proofs.lemmas.List.Sums.{fold-append}
use Rattle.od_document.specs.declared.doc.Doc.{Doc}
use Rattle.od_extraction.specs.declared.mention.Mention.{Mention}
use Rattle.od_extraction.specs.declared.mention.RoundResult.{RoundResult}
use Rattle.od_extraction.specs.declared.mention.RoundResult.TheVariants.{Found, Crowded, TooMany}
use Rattle.od_extraction.specs.Joined.{joined}
use Rattle.od_extraction.specs.Mentions.{is_among, with_new, distinct}
use Rattle.od_extraction.specs.Weight.{weight, most_weight}
use Rattle.od_index.specs.Segments.{Tiles}
use Rattle.od_index.specs.Sites.{Site}
use Rattle.od_index.specs.Views.{Seen, sites_seen}
use Rattle.od_matching.specs.Rounds.Round.{Item, one, crowd, walked, weighed, walk_over, items_in, round_over, round}
use Rattle.od_matching.specs.Rounds.Standing.{Standing, standing, next_round}
use Rattle.od_matching.specs.Rounds.Candidates.{items_kept, openings}
use Rattle.od_matching.proofs.Rounds.Kept.{seen-is-round}
use Rattle.od_need.proofs.Needed.{pruned-is-round}
use Rattle.od_need.proofs.Rules.{kept-after-kept, opened-after-opened}
use Rattle.od_need.specs.Candidates.{needed}
use Rattle.od_need.specs.Openings.{kept_where_run, opened_where_run}
use Rattle.od_matching.proofs.Rounds.Stands.{round-is-next}
use Rattle.od_matching.proofs.Rounds.Walks.{distinct-after}
use Rattle.od_pattern.specs.declared.grammar.Grammar.{Grammar}
use Rattle.od_pattern.specs.declared.rule.Rule.{Rule}
use Rattle.od_rounds.specs.Looked.{walk_from}
use Rattle.od_rounds.specs.Weighed.{most_kept}

-- all rules, each where its priority holds the round and over the sentences at which its need occurs, lead to the round
pub rules-lead : (ss : List Site) (g : Grammar) (rules : List Rule) (r : ℕ) (known : List Mention) → g.rules ≡ rules → distinct known ≡ known
    → walk_from known [] (flat_map (kept_where_run (needed known) r ss known) (enumerate_from 1 rules)) ≡ round_over ss g r known
rules-lead ss g rules r known are unlike =
    ap (λ ys. walk_from known [] (flat_map (kept_where_run (needed known) r ss known) (enumerate_from 1 ys))) (sym are)
    ∙ ap (walk_over known) (kept-after-kept (needed known) ss g r known)
    ∙ ap (λ ms. walk_over ms (items_kept (needed ms) ss g r ms)) (sym unlike)
    ∙ pruned-is-round ss g r known

-- and open as many sentences as their needs occur at
pub rules-open : (ss : List Site) (g : Grammar) (rules : List Rule) (r : ℕ) (known : List Mention) → g.rules ≡ rules
    → sum_by (opened_where_run (needed known) r ss) (enumerate_from 1 rules) ≡ openings (needed known) ss g r
rules-open ss g rules r known are =
    ap (λ ys. sum_by (opened_where_run (needed known) r ss) (enumerate_from 1 ys)) (sym are)
    ∙ opened-after-opened (needed known) ss g r

-- over segments that tile documents it is the round over the first of these
pub scanned-is : (seen : Seen) (at : Standing) (docs : List Doc) (lists : List (List Mention)) (g : Grammar) → Tiles seen.segments docs → at ≡ standing lists
    → next_round (sites_seen seen) g at ≡ round (take seen.documents docs) g (length lists + 1) (joined lists)
scanned-is seen at docs lists g tiles is =
    ap (next_round (sites_seen seen) g) is
    ∙ sym (round-is-next (sites_seen seen) g lists)
    ∙ seen-is-round seen docs g (length lists + 1) (joined lists) tiles

-- ## What a round found

-- the known mentions with those that a round found, one by one, are both lists
pub added-both : (ss : List Site) (g : Grammar) (r : ℕ) (known found : List Mention) → distinct known ≡ known → round_over ss g r known ≡ Found found
    → fold with_new known found ≡ known ++ found
added-both ss g r known found unlike e =
    ap (λ ms. fold with_new ms found) (sym unlike)
    ∙ sym (fold-append with_new [] known found)
    ∙ distinct-after ss g r known found e
    ∙ ap (λ ms. ms ++ found) unlike

pub both-unlike : (ss : List Site) (g : Grammar) (r : ℕ) (known found : List Mention) → distinct known ≡ known → round_over ss g r known ≡ Found found
    → distinct (known ++ found) ≡ known ++ found
both-unlike ss g r known found unlike e = distinct-after ss g r known found e ∙ ap (λ ms. ms ++ found) unlike

-- what is found so far is nothing, or all together do not weigh too much
abbrev IsLight : List Mention → RoundResult → Type 0
IsLight old (Found new) = (new ≡ []) ⊎ (weight (old ++ new) ≤ most_weight)
IsLight old (Crowded rule document sentence count) = Unit {0}
IsLight old (TooMany total) = Unit {0}

light-weighed : (old new : List Mention) (m : Mention) (b : Bool) → nat_lt most_weight (weight (old ++ (new ++ m ∷ []))) ≡ b
    → IsLight old (cond b (TooMany (weight (old ++ (new ++ m ∷ [])))) (Found (new ++ m ∷ [])))
light-weighed old new m true e = tt
light-weighed old new m false e = inr (ltb-false most_weight (weight (old ++ (new ++ m ∷ []))) e)

light-one : (old new : List Mention) (m : Mention) (b : Bool) → IsLight old (Found new) → IsLight old (cond b (Found new) (weighed old new m))
light-one old new m true h = h
light-one old new m false h = light-weighed old new m (nat_lt most_weight (weight (old ++ (new ++ m ∷ [])))) refl

light-walked : (old : List Mention) (r : RoundResult) (x : Item) → IsLight old r → IsLight old (walked old r x)
light-walked old (Found new) (one m) h = light-one old new m (is_among (old ++ new) m) h
light-walked old (Found new) (crowd c) h = tt
light-walked old (Crowded rule document sentence count) x h = tt
light-walked old (TooMany total) x h = tt

light-all : (old : List Mention) (r : RoundResult) (xs : List Item) → IsLight old r → IsLight old (fold (walked old) r xs)
light-all old r [] h = h
light-all old r (x ∷ xs) h = light-all old (walked old r x) xs (light-walked old r x h)

round-light : (ss : List Site) (g : Grammar) (r : ℕ) (old : List Mention) → distinct old ≡ old → IsLight old (round_over ss g r old)
unfolding round_over
round-light ss g r old unlike =
    subst (λ ms. IsLight old (walk_over ms (items_in ss g r ms))) (sym unlike) (light-all old (Found []) (items_in ss g r old) (inl refl))

both-by : (known found : List Mention) → weight known ≤ most_kept → (found ≡ []) ⊎ (weight (known ++ found) ≤ most_weight) → weight (known ++ found) ≤ most_kept
both-by known found h (inl e) = subst (λ ms. weight ms ≤ most_kept) (sym (ap (λ ms. known ++ ms) e ∙ append-nil known)) h
both-by known found h (inr light) = omega arith

-- all together weigh no more than what may be kept: a round that finds something leaves what is not too heavy
pub both-light : (ss : List Site) (g : Grammar) (r : ℕ) (known found : List Mention) → distinct known ≡ known → weight known ≤ most_kept → round_over ss g r known ≡ Found found
    → weight (known ++ found) ≤ most_kept
both-light ss g r known found unlike h e = both-by known found h (subst (IsLight known) e (round-light ss g r known unlike))
