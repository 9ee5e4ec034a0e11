-- What a round adds, and the lists of the rounds one after another.
use Rattle.std.specs.Prelude.{ℕ, zero, suc, ◌+◌, List, [], ◌∷◌, ◌++◌, length, map, filter, fold, flat_map, Option, Some, None, ◌&&◌, if◌then◌else◌, ◌==◌, nat_lt}
use Rattle.od_document.specs.declared.doc.Doc.{Doc}
use Rattle.od_pattern.specs.declared.rule.Rule.{Rule}
use Rattle.od_pattern.specs.declared.grammar.Grammar.{Grammar}
use Rattle.od_extraction.specs.declared.mention.Mention.{Mention}
use Rattle.od_extraction.specs.declared.mention.RoundResult.{RoundResult}
use Rattle.od_extraction.specs.declared.mention.RoundResult.TheVariants.{Found, Crowded, TooMany}
use Rattle.od_extraction.specs.Joined.{joined}
use Rattle.od_extraction.specs.Mentions.{is_among, distinct}
use Rattle.od_matching.specs.Matching.Rules.{RuleOutcome, mentions, crowded, rule_mentions}
use Rattle.od_extraction.specs.Weight.{weight, most_weight}
use Rattle.od_matching.specs.Rounds.Sites.{Site, sites, runs_in, rules_in}

-- a rule, numbered from 1, that finds too much on a sentence, with the count that is too great
pub record Crowd : Type 0 where
  pub rule : ℕ
  pub document : ℕ
  pub sentence : ℕ
  pub count : ℕ

-- what a round meets: a mention, or a rule that finds too much
pub data Item : Type 0 where
  one : Mention → Item
  crowd : Crowd → Item

-- the mentions of one sentence
abbrev pub in_sentence : ℕ → ℕ → List Mention → List Mention
in_sentence document number old = filter (λ m. m.document == document && m.sentence == number) old

-- the mentions of the sentence at a site
abbrev pub known_at : List Mention → Site → List Mention
known_at old site = in_sentence site.document site.number old

-- what a rule finds at a site, against the mentions of that sentence
abbrev pub outcome_at : List Mention → Rule → Site → RuleOutcome
outcome_at old rule site = rule_mentions rule site.document site.number site.words (known_at old site)

-- what a rule of this number gives at a site where it finds this
abbrev pub items_of : ℕ → Site → RuleOutcome → List Item
items_of rule site (mentions ms) = map one ms
items_of rule site (crowded count) =
    crowd (record { rule = rule; document = site.document; sentence = site.number; count = count }) ∷ []

-- what a numbered rule gives at a site
abbrev pub items_at : List Mention → ℕ × Rule → Site → List Item
items_at old rule site = items_of rule.0 site (outcome_at old rule.1 site)

-- what a rule gives at sites, in their order
abbrev pub items_over : List Site → List Mention → ℕ × Rule → List Item
items_over ss old rule = flat_map (λ site. items_at old rule site) ss

-- the same where the rule's priority holds the round, and else nothing
abbrev pub items_where_run : ℕ → List Site → List Mention → ℕ × Rule → List Item
items_where_run r ss old rule = if runs_in r rule.1.priority then items_over ss old rule else []

-- what the rules of a round give at sites, in the order of the file
abbrev pub items_in : List Site → Grammar → ℕ → List Mention → List Item
items_in ss g r old = flat_map (λ rule. items_over ss old rule) (rules_in r g)

-- the same over the sentences of documents, in the order of the documents
abbrev pub items_by : List Doc → List Mention → ℕ × Rule → List Item
items_by docs old rule = items_over (sites docs) old rule

-- and what all rules of a round give there
abbrev pub items : List Doc → Grammar → ℕ → List Mention → List Item
items docs g r old = items_in (sites docs) g r old

-- what all weigh with one mention more
abbrev pub weight_with : List Mention → List Mention → Mention → ℕ
weight_with old new m = weight (old ++ (new ++ m ∷ []))

-- a new mention, which may be too heavy
abbrev pub weighed : List Mention → List Mention → Mention → RoundResult
weighed old new m =
    if nat_lt most_weight (weight_with old new m) then TooMany (weight_with old new m)
    else Found (new ++ m ∷ [])

-- one item more: a mention that is there already is not added, and the first refusal stays
abbrev pub walked : List Mention → RoundResult → Item → RoundResult
walked old (Found new) (one m) = if is_among (old ++ new) m then Found new else weighed old new m
walked old (Found new) (crowd c) = Crowded c.rule c.document c.sentence c.count
walked old (Crowded rule document sentence count) item = Crowded rule document sentence count
walked old (TooMany total) item = TooMany total

-- a walk over items, against mentions without repeats
abbrev pub walk_over : List Mention → List Item → RoundResult
walk_over old xs = fold (walked old) (Found []) xs

-- round r over sentences, against the mentions that are there; each of these counts once
unfoldable pub round_over : List Site → Grammar → ℕ → List Mention → RoundResult
round_over ss g r old = walk_over (distinct old) (items_in ss g r (distinct old))

-- the same over documents, against mentions without repeats
abbrev pub walk : List Doc → Grammar → ℕ → List Mention → RoundResult
walk docs g r old = walk_over old (items docs g r old)

-- round r over the sentences of documents
abbrev pub round : List Doc → Grammar → ℕ → List Mention → RoundResult
round docs g r old = round_over (sites docs) g r old

-- the lists with one found more, where the round was not refused
abbrev pub with_found : List (List Mention) → RoundResult → Option (List (List Mention))
with_found lists (Found new) = Some (lists ++ new ∷ [])
with_found lists (Crowded rule document sentence count) = None
with_found lists (TooMany total) = None

abbrev pub one_more : List Doc → Grammar → Option (List (List Mention)) → Option (List (List Mention))
one_more docs g None = None
one_more docs g (Some lists) = with_found lists (round docs g (length lists + 1) (joined lists))

-- the lists of the first r rounds, where none is refused
unfoldable pub rounds : List Doc → Grammar → ℕ → Option (List (List Mention))
rounds docs g zero = Some []
rounds docs g (suc r) = one_more docs g (rounds docs g r)
