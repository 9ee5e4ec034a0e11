-- Rounds that are refused, worked out: which rule is named, and which of several refusals comes first.
use Rattle.std.proofs.Common.{◌≡◌, ℕ, ◌<◌, List, [], ◌∷◌, ◌++◌, length, map, fold, true, refl, ap, ap₂, ◌∙◌, lit<, lit≤, lt-ltb, arith}
use Rattle.std.proofs.lemmas.List.Elements.{All-from_recursion}
use Rattle.std.specs.List.{AllByRecursion}
use Rattle.std.specs.Prelude.{codes, Some, None, replicate, nat_lt}
use denote.Hole.Carrier.{hidden}
use Rattle.od_document.specs.Edges.{EndsWithin}
use Rattle.od_document.specs.declared.token.Token.{Token}
use Rattle.od_document.specs.declared.token.Edge.{Edge}
use Rattle.od_document.specs.declared.sentence.Sentence.{Sentence}
use Rattle.od_extraction.specs.declared.mention.Mention.{Mention}
use Rattle.od_extraction.specs.declared.mention.Part.{Part}
use Rattle.od_extraction.specs.declared.mention.RoundResult.{RoundResult}
use Rattle.od_extraction.specs.declared.mention.RoundResult.TheVariants.{Found, Crowded, TooMany}
use Rattle.od_extraction.specs.Mentions.{same_mention}
use Rattle.od_extraction.specs.Weight.{weight, most_weight}
use Rattle.od_matching.specs.Matching.Derives.{first}
use Rattle.od_matching.specs.Matching.Events.{event_count, event_mentions}
use Rattle.od_matching.specs.Matching.Hops.{most_found}
use Rattle.od_asked.specs.Holds.{holds}
use Rattle.od_matching.specs.Matching.Reach.{reached}
use Rattle.od_matching.specs.Matching.Rules.{RuleOutcome, mentions, crowded, rule_mentions, outcome_of}
use Rattle.od_matching.specs.Matching.Scan.{scan_from, scan_of}
use Rattle.od_matching.specs.Rounds.Round.{Item, one, crowd as crowd_item, items_of, walked, walk_over, round_over}
use Rattle.od_matching.specs.Rounds.Sites.{Site}
use Rattle.od_matching.proofs.Rounds.Walks.{walked-heavy}
use Rattle.od_pattern.specs.declared.grammar.Grammar.{Grammar}
use Rattle.od_pattern.specs.declared.grammar.GrammarKind.TheVariants.{RuleFile}
use Rattle.od_pattern.specs.declared.path.Path as path
use Rattle.od_pattern.specs.declared.path.Path.TheBlock.{hidden-the_row-Path-0, hidden-the_row-Path-1}
use Rattle.od_pattern.specs.declared.pattern.Constraint as constraint
use Rattle.od_pattern.specs.declared.pattern.Field.TheVariants.{Word}
use Rattle.od_pattern.specs.declared.pattern.Surface as surface
use Rattle.od_pattern.specs.declared.pattern.Surface.{Surface}
use Rattle.od_pattern.specs.declared.pattern.Surface.TheBlock.{hidden-the_row-Surface-0, hidden-the_row-Surface-1}
use Rattle.od_pattern.specs.declared.pattern.Value.TheVariants.{Plain}
use Rattle.od_pattern.specs.declared.rule.Argument.{Argument}
use Rattle.od_pattern.specs.declared.rule.Body.TheVariants as body
use Rattle.od_pattern.specs.declared.rule.EventRule.{EventRule}
use Rattle.od_pattern.specs.declared.rule.Many.TheVariants.{One}
use Rattle.od_pattern.specs.declared.rule.Rule.{Rule}

-- `dogs bark loud`, of which the second governs the others
abbrev word : List ℕ → Token
word form = record { word = form; norm = form; lemma = None; upos = None; tag = None; entity = None; chunk = None }

abbrev edges : List Edge
edges = record { governor = 1; dependent = 0; label = codes "dep" } ∷ record { governor = 1; dependent = 2; label = codes "dep" } ∷ []

within : (count : ℕ) (edges : List Edge) → AllByRecursion (λ e. (e.governor < count) × (e.dependent < count)) edges → EndsWithin count edges
within count edges h = All-from_recursion (λ e. (e.governor < count) × (e.dependent < count)) edges h

abbrev barking : Sentence
barking = record {
  tokens = word (codes "dogs") ∷ word (codes "bark") ∷ word (codes "loud") ∷ [];
  edges = edges;
  some = lit< tt;
  few = lit≤ tt;
  few_edges = lit≤ tt;
  ends = within 3 edges ((lit< tt, lit< tt), ((lit< tt, lit< tt), tt));
  distinct = refl;
}

abbrev at : Site
at = record { document = 0; number = 0; words = barking }

abbrev bark : Surface
bark = surface.Token (constraint.Is Word (Plain (codes "bark")))

-- a rule that finds the one word
abbrev plain : Rule
plain = record { name = codes "plain"; label = codes "Bark"; priority = record { first = 1; last = None }; body = body.Basic (record { first = bark; rest = [] }) }

abbrev argument : Argument
argument = record { name = codes "who"; label = None; many = One; path = path.Along (Some (Plain (codes "dep"))) }

-- as many arguments, of which each may be either of two words
abbrev event : ℕ → EventRule
event n = record { trigger = bark; arguments = replicate n argument }

abbrev crowd : ℕ → Rule
crowd n = record { name = codes "crowd"; label = codes "Crowd"; priority = record { first = 1; last = None }; body = body.Event (event n) }

-- ## What the rules find

abbrev barks : Mention
barks = record { document = 0; sentence = 0; start = 1; end = 2; label = codes "Bark"; rule = codes "plain"; parts = [] }

plain_finds : rule_mentions plain 0 0 barking [] ≡ mentions (barks ∷ [])
unfolding rule_mentions same_mention scan_of scan_from first holds hidden hidden-the_row-Surface-0 hidden-the_row-Surface-1
plain_finds = refl

-- with 13 arguments there are 2^13 mentions; with 14 there would be 2^14, and with 15 the count stops there
no_crowd : event_count most_found (event 13) barking [] ≡ None
unfolding scan_of scan_from first holds reached hidden hidden-the_row-Surface-0 hidden-the_row-Surface-1 hidden-the_row-Path-0 hidden-the_row-Path-1
no_crowd = refl

count_14 : event_count most_found (event 14) barking [] ≡ Some 16384
unfolding scan_of scan_from first holds reached hidden hidden-the_row-Surface-0 hidden-the_row-Surface-1 hidden-the_row-Path-0 hidden-the_row-Path-1
count_14 = refl

count_15 : event_count most_found (event 15) barking [] ≡ Some 16384
unfolding scan_of scan_from first holds reached hidden hidden-the_row-Surface-0 hidden-the_row-Surface-1 hidden-the_row-Path-0 hidden-the_row-Path-1
count_15 = refl

-- a count that is too great is what the rule gives
crowds : (n count : ℕ) → event_count most_found (event n) barking [] ≡ Some count → rule_mentions (crowd n) 0 0 barking [] ≡ crowded count
unfolding rule_mentions
crowds n count e = ap (λ o. outcome_of o (event_mentions (crowd n) 0 0 (event n) barking [])) e

-- ## Rounds

-- the crowd that a rule meets
abbrev crowd_of : ℕ → Item
crowd_of rule = crowd_item (record { rule = rule; document = 0; sentence = 0; count = 16384 })

abbrev grammar : List Rule → Grammar
grammar rules = record { kind = RuleFile; text = []; rules = rules }

-- what the round of three rules is, by what they give
abbrev walked_3 : List Mention → RuleOutcome → RuleOutcome → RuleOutcome → RoundResult
walked_3 old a b c = walk_over old ((items_of 1 at a ++ []) ++ ((items_of 2 at b ++ []) ++ ((items_of 3 at c ++ []) ++ [])))

given : (old : List Mention) (a b c a' b' c' : RuleOutcome) → a ≡ a' → b ≡ b' → c ≡ c' → walked_3 old a b c ≡ walked_3 old a' b' c'
given old a b c a' b' c' e f g = ap (λ o. walked_3 old o b c) e ∙ ap₂ (walked_3 old a') f g

-- the first crowd is answered, with its rule's number from 1, although the third rule is crowded too
crowded_second : round_over (at ∷ []) (grammar (plain ∷ crowd 14 ∷ crowd 15 ∷ [])) 1 [] ≡ Crowded 2 0 0 16384
unfolding round_over
crowded_second =
    given [] (rule_mentions plain 0 0 barking []) (rule_mentions (crowd 14) 0 0 barking []) (rule_mentions (crowd 15) 0 0 barking []) (mentions (barks ∷ [])) (crowded 16384) (crowded 16384)
    plain_finds (crowds 14 16384 count_14) (crowds 15 16384 count_15)

-- a mention of another document, with parts
abbrev heavy : List Part → Mention
heavy parts = record { document = 1; sentence = 0; start = 0; end = 1; label = codes "Heavy"; rule = codes "heavy"; parts = parts }

-- with the new mention that is met first the mentions weigh too much, and this comes before the crowd
heavy_first : (parts : List Part) → length parts ≡ 99999
    → round_over (at ∷ []) (grammar (plain ∷ crowd 14 ∷ crowd 15 ∷ [])) 1 (heavy parts ∷ []) ≡ TooMany 100001
unfolding round_over same_mention
heavy_first parts e =
    let old = heavy parts ∷ [] in
    let all : weight (old ++ ([] ++ barks ∷ [])) ≡ 100001 = omega (arith, e) in
    let over : nat_lt most_weight (weight (old ++ ([] ++ barks ∷ []))) ≡ true = lt-ltb most_weight (weight (old ++ ([] ++ barks ∷ []))) (omega (arith, all)) in
    let met : walked old (Found []) (one barks) ≡ TooMany (weight (old ++ ([] ++ barks ∷ []))) = walked-heavy old [] barks refl over in
    given old (rule_mentions plain 0 0 barking []) (rule_mentions (crowd 14) 0 0 barking []) (rule_mentions (crowd 15) 0 0 barking []) (mentions (barks ∷ [])) (crowded 16384) (crowded 16384)
    plain_finds (crowds 14 16384 count_14) (crowds 15 16384 count_15)
    ∙ ap (λ r. fold (walked old) r (crowd_of 2 ∷ crowd_of 3 ∷ [])) met
    ∙ ap TooMany all

-- where the crowd is met first, it is answered
crowd_first : (parts : List Part) → length parts ≡ 99999
    → round_over (at ∷ []) (grammar (crowd 14 ∷ plain ∷ crowd 15 ∷ [])) 1 (heavy parts ∷ []) ≡ Crowded 1 0 0 16384
unfolding round_over
crowd_first parts e =
    given (heavy parts ∷ []) (rule_mentions (crowd 14) 0 0 barking []) (rule_mentions plain 0 0 barking []) (rule_mentions (crowd 15) 0 0 barking []) (crowded 16384) (mentions (barks ∷ [])) (crowded 16384)
    (crowds 14 16384 count_14) plain_finds (crowds 15 16384 count_15)

-- a round that adds nothing is not refused, whatever the mentions weigh that are there
heavy_alone : (parts : List Part) → round_over (at ∷ []) (grammar (plain ∷ [])) 1 (barks ∷ heavy parts ∷ []) ≡ Found []
unfolding round_over rule_mentions same_mention scan_of scan_from first holds hidden hidden-the_row-Surface-0 hidden-the_row-Surface-1
heavy_alone parts = refl
