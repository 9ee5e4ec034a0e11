-- What a round finds is named by the rules of its grammar.
use Rattle.std.proofs.Common.{◌≡◌, ℕ, ◌+◌, List, [], ◌∷◌, ◌++◌, fold, Bool, true, false, if◌then◌else◌, refl, sym, ◌∙◌, subst, append_assoc}
use Rattle.std.specs.List.{enumerate_from}
use Rattle.std.specs.Prelude.{nat_lt}
use Rattle.od_document.specs.declared.doc.Doc.{Doc}
use Rattle.od_pattern.specs.declared.rule.Rule.{Rule}
use Rattle.od_pattern.specs.declared.grammar.Grammar.{Grammar}
use Rattle.od_extraction.specs.declared.mention.Mention.{Mention}
use Rattle.od_extraction.specs.declared.mention.RoundResult.{RoundResult}
use Rattle.od_extraction.specs.declared.mention.RoundResult.TheVariants.{Found, Crowded, TooMany}
use Rattle.od_text.specs.Lists.{Each}
use Rattle.od_text.proofs.Lists.{Each-append, Each-weaker, Each-map, Each-flat_map, Each-filter}
use Rattle.od_extraction.specs.Mentions.{is_among, distinct}
use Rattle.od_extraction.specs.Weight.{weight, most_weight}
use Rattle.od_matching.specs.Matching.Rules.{RuleOutcome, mentions, crowded, rule_mentions}
use Rattle.od_matching.specs.Rounds.Sites.{Site, sites, rules_in}
use Rattle.od_matching.specs.Rounds.Round.{Item, one, crowd, in_sentence, items_of, items_at, items_by, items, weighed, walked, round_over, round}
use Rattle.od_named.specs.Laws.{RoundsAreNamed}
use Rattle.od_named.specs.Named.{IsNamed, IsNamedBy}
use Rattle.od_named.proofs.Finding.{rule-named}

-- a rule stands among these
record Stands (rules : List Rule) (r : Rule) : Type 0 where
  front : List Rule
  behind : List Rule
  rules_are : rules ≡ front ++ r ∷ behind

stand : (all front rules : List Rule) (n : ℕ) → all ≡ front ++ rules → Each (λ rule. Stands all rule.1) (enumerate_from n rules)
stand all front [] n e = tt
stand all front (r ∷ rules) n e = (record { front = front; behind = rules; rules_are = e }, stand all (front ++ r ∷ []) rules (n + 1) (e ∙ sym (append_assoc front (r ∷ []) rules)))

-- ## Items

module _ (rules : List Rule) where
  abbrev ItemNamed : Item → Type 0
  ItemNamed (one m) = IsNamed rules m
  ItemNamed (crowd c) = Unit {0}

  found-at : (number : ℕ) (r : Rule) → Stands rules r → (site : Site) (found : RuleOutcome) → ((ms : List Mention) → found ≡ mentions ms → Each (IsNamedBy r) ms) → Each ItemNamed (items_of number site found)
  found-at number r at site (mentions ms) h =
      Each-map ItemNamed one ms (Each-weaker (IsNamedBy r) (IsNamed rules) (λ m n. record { front = at.front; by = r; behind = at.behind; rules_are = at.rules_are; named = n }) ms (h ms refl))
  found-at number r at site (crowded count) h = (tt, tt)

  at-sites : (old : List Mention) (rule : ℕ × Rule) → Stands rules rule.1 → (ss : List Site) → Each (λ site. Each ItemNamed (items_at old rule site)) ss
  at-sites old rule at [] = tt
  at-sites old rule at (site ∷ ss) = (
    found-at rule.0 rule.1 at site (rule_mentions rule.1 site.document site.number site.words (in_sentence site.document site.number old))
        (λ ms e. rule-named rule.1 site.document site.number site.words (in_sentence site.document site.number old) ms e),
    at-sites old rule at ss,
  )

  by-rules : (docs : List Doc) (old : List Mention) (numbered : List (ℕ × Rule)) → Each (λ rule. Stands rules rule.1) numbered → Each (λ rule. Each ItemNamed (items_by docs old rule)) numbered
  by-rules docs old [] h = tt
  by-rules docs old (rule ∷ more) h = (Each-flat_map ItemNamed (λ site. items_at old rule site) (sites docs) (at-sites old rule h.0 (sites docs)), by-rules docs old more h.1)

  -- ## What a walk has found

  abbrev ResultNamed : RoundResult → Type 0
  ResultNamed (Found new) = Each (IsNamed rules) new
  ResultNamed (Crowded rule document sentence count) = Unit {0}
  ResultNamed (TooMany total) = Unit {0}

  module _ (old : List Mention) where
    named-weighed : (new : List Mention) (m : Mention) (total : ℕ) (b : Bool) → Each (IsNamed rules) new → IsNamed rules m → ResultNamed (if b then TooMany total else Found (new ++ m ∷ []))
    named-weighed new m total true h k = tt
    named-weighed new m total false h k = Each-append (IsNamed rules) new (m ∷ []) h (k, tt)

    named-one : (new : List Mention) (m : Mention) (b : Bool) → Each (IsNamed rules) new → IsNamed rules m → ResultNamed (if b then Found new else weighed old new m)
    named-one new m true h k = h
    named-one new m false h k = named-weighed new m (weight (old ++ (new ++ m ∷ []))) (nat_lt most_weight (weight (old ++ (new ++ m ∷ [])))) h k

    named-walked : (r : RoundResult) (x : Item) → ResultNamed r → ItemNamed x → ResultNamed (walked old r x)
    named-walked (Found new) (one m) h k = named-one new m (is_among (old ++ new) m) h k
    named-walked (Found new) (crowd c) h k = tt
    named-walked (Crowded rule document sentence count) x h k = tt
    named-walked (TooMany total) x h k = tt

    named-all : (r : RoundResult) (xs : List Item) → ResultNamed r → Each ItemNamed xs → ResultNamed (fold (walked old) r xs)
    named-all r [] h k = h
    named-all r (x ∷ xs) h k = named-all (walked old r x) xs (named-walked r x h k.0) k.1

round-named : (docs : List Doc) (g : Grammar) (r : ℕ) (old : List Mention) → ResultNamed g.rules (round docs g r old)
unfolding round_over
round-named docs g r old =
    let all = Each-filter (λ rule. Stands g.rules rule.1) _ (enumerate_from 1 g.rules) (stand g.rules [] g.rules 1 refl) in
    named-all g.rules (distinct old) (Found []) (items docs g r (distinct old)) tt
    (Each-flat_map (ItemNamed g.rules) (λ rule. items_by docs (distinct old) rule) (rules_in r g) (by-rules g.rules docs (distinct old) (rules_in r g) all))

pub rounds_are_named : RoundsAreNamed
rounds_are_named docs g r old new e = subst (ResultNamed g.rules) e (round-named docs g r old)
