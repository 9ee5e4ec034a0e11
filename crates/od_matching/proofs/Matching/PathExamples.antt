-- Paths, patterns with paths and events on short sentences, worked out.
use Rattle.std.proofs.Common.{◌≡◌, ℕ, ◌+◌, List, [], ◌∷◌, map, refl, lit<, lit≤}
use Rattle.std.proofs.lemmas.List.Elements.{All-from_recursion}
use Rattle.std.specs.List.{AllByRecursion}
use Rattle.std.specs.Prelude.{Bool, true, false, ◌==◌, ◌<◌, codes, Option, Some, None}
use denote.Hole.Carrier.{hidden}
use Rattle.od_document.specs.Edges.{EndsWithin}
use Rattle.od_matching.specs.Matching.Choice.{capture}
use Rattle.od_asked.specs.Holds.{holds}
use Rattle.od_matching.specs.Matching.Derives.{first}
use Rattle.od_matching.specs.Matching.Reach.{reached}
use Rattle.od_matching.specs.Matching.Scan.{match_of, scan_from, scan_of}
use Rattle.od_matching.specs.Matching.Hops.{most_found, hop_lists, last_of, hop_count}
use Rattle.od_matching.specs.Matching.Events.{over, product, running, event_mentions, event_count}
use Rattle.od_document.specs.declared.token.Token.{Token}
use Rattle.od_document.specs.declared.token.Edge.{Edge}
use Rattle.od_document.specs.declared.sentence.Sentence.{Sentence}
use Rattle.od_extraction.specs.declared.mention.Part.{Part}
use Rattle.od_extraction.specs.declared.mention.Labelled.{Labelled}
use Rattle.od_pattern.specs.declared.pattern.Field.TheVariants.{Lemma, Tag}
use Rattle.od_pattern.specs.declared.pattern.Value.TheVariants.{Plain}
use Rattle.od_pattern.specs.declared.pattern.Constraint as constraint
use Rattle.od_pattern.specs.declared.pattern.Surface as surface
use Rattle.od_pattern.specs.declared.pattern.Surface.{Surface}
use Rattle.od_pattern.specs.declared.pattern.Surface.TheBlock.{hidden-the_row-Surface-0, hidden-the_row-Surface-1}
use Rattle.od_pattern.specs.declared.path.Path as path
use Rattle.od_pattern.specs.declared.path.Path.{Path}
use Rattle.od_pattern.specs.declared.path.Path.TheBlock.{hidden-the_row-Path-0, hidden-the_row-Path-1}
use Rattle.od_pattern.specs.declared.rule.Hop.{Hop}
use Rattle.od_pattern.specs.declared.rule.Many.{Many}
use Rattle.od_pattern.specs.declared.rule.Many.TheVariants.{One, Optional, All, AllOne}
use Rattle.od_pattern.specs.declared.rule.Argument.{Argument}
use Rattle.od_pattern.specs.declared.rule.Body.TheVariants as body
use Rattle.od_pattern.specs.declared.rule.EventRule.{EventRule}
use Rattle.od_pattern.specs.declared.rule.Rule.{Rule}
use Rattle.od_extraction.specs.declared.mention.Mention.{Mention}
use Rattle.od_extraction.specs.declared.mention.Match.{Match}

-- a token with a lemma and a tag
abbrev word : List ℕ → List ℕ → Token
word lemma tag = record { word = lemma; norm = lemma; lemma = Some lemma; upos = None; tag = Some tag; entity = None; chunk = None }

-- the edge to a token, from its governor
abbrev edge : ℕ → ℕ → List ℕ → Edge
edge dependent governor label = record { governor = governor; dependent = dependent; label = label }

-- each edge lies within so many tokens, edge by edge
within : (count : ℕ) (edges : List Edge) → AllByRecursion (λ e. (e.governor < count) × (e.dependent < count)) edges → EndsWithin count edges
within count edges h = All-from_recursion (λ e. (e.governor < count) × (e.dependent < count)) edges h

abbrev along : List ℕ → Path
along label = path.Along (Some (Plain label))

abbrev against : List ℕ → Path
against label = path.Against (Some (Plain label))

-- ## Where a path leads

-- three words in a circle
abbrev circle_edges : List Edge
circle_edges = edge 0 1 (codes "nsubj") ∷ edge 1 2 (codes "obj") ∷ edge 2 0 (codes "dep") ∷ []

abbrev circle : Sentence
circle = record {
  tokens = word (codes "a") (codes "X") ∷ word (codes "b") (codes "X") ∷ word (codes "c") (codes "X") ∷ [];
  edges = circle_edges;
  some = lit< tt;
  few = lit≤ tt;
  few_edges = lit≤ tt;
  ends = within 3 circle_edges ((lit< tt, lit< tt), ((lit< tt, lit< tt), ((lit< tt, lit< tt), tt)));
  distinct = refl;
}

-- whether a path leads to each of its tokens from one of them
abbrev leads_to : Path → ℕ → List Bool
leads_to p a = map (λ b. reached circle p (λ k. k == a) b) (0 ∷ 1 ∷ 2 ∷ [])

-- `>nsubj | <obj >>*`: no further step is one of the ways
abbrev around : Path
around = path.Alt (along (codes "nsubj") ∷ path.Seq (against (codes "obj") ∷ path.Repeat (path.Along None) 0 None ∷ []) ∷ [])

around_from_0 : leads_to around 0 ≡ false ∷ false ∷ false ∷ []
unfolding reached hidden hidden-the_row-Path-0 hidden-the_row-Path-1
around_from_0 = refl

around_from_1 : leads_to around 1 ≡ true ∷ true ∷ true ∷ []
unfolding reached hidden hidden-the_row-Path-0 hidden-the_row-Path-1
around_from_1 = refl

around_from_2 : leads_to around 2 ≡ false ∷ false ∷ false ∷ []
unfolding reached hidden hidden-the_row-Path-0 hidden-the_row-Path-1
around_from_2 = refl

-- `<obj >dep*` from the second token
back_and_on : leads_to (path.Seq (against (codes "obj") ∷ path.Repeat (along (codes "dep")) 0 None ∷ [])) 1 ≡ false ∷ false ∷ true ∷ []
unfolding reached hidden hidden-the_row-Path-0 hidden-the_row-Path-1
back_and_on = refl

-- `>nsubj*` stays too, and `>nsubj{2}` finds no second step
any_number : leads_to (path.Repeat (along (codes "nsubj")) 0 None) 1 ≡ true ∷ true ∷ false ∷ []
unfolding reached hidden hidden-the_row-Path-0 hidden-the_row-Path-1
any_number = refl

two_steps : leads_to (path.Repeat (along (codes "nsubj")) 2 (Some 2)) 1 ≡ false ∷ false ∷ false ∷ []
unfolding reached hidden hidden-the_row-Path-0 hidden-the_row-Path-1
two_steps = refl

-- ## A sentence with two subjects and two objects

-- `Acme and Bob bought shares and bonds`
abbrev deal_edges : List Edge
deal_edges =
    edge 0 3 (codes "nsubj") ∷ edge 1 2 (codes "cc") ∷ edge 2 3 (codes "nsubj") ∷
    edge 4 3 (codes "obj") ∷ edge 5 6 (codes "cc") ∷ edge 6 3 (codes "obj") ∷ []

abbrev deal : Sentence
deal = record {
  tokens =
      word (codes "Acme") (codes "NNP") ∷ word (codes "and") (codes "CC") ∷ word (codes "Bob") (codes "NNP") ∷ word (codes "buy") (codes "VBD") ∷
      word (codes "share") (codes "NNS") ∷ word (codes "and") (codes "CC") ∷ word (codes "bond") (codes "NNS") ∷ [];
  edges = deal_edges;
  some = lit< tt;
  few = lit≤ tt;
  few_edges = lit≤ tt;
  ends = within 7 deal_edges ((lit< tt, lit< tt), ((lit< tt, lit< tt), ((lit< tt, lit< tt), ((lit< tt, lit< tt), ((lit< tt, lit< tt), ((lit< tt, lit< tt), tt))))));
  distinct = refl;
}

abbrev tagged : List ℕ → Surface
tagged tag = surface.Token (constraint.Is Tag (Plain tag))

abbrev buy : Surface
buy = surface.Token (constraint.Is Lemma (Plain (codes "buy")))

-- `(?<s>[tag=NNP]) <nsubj [lemma=buy] >obj (?<o>[tag=NNS])`
abbrev who_bought_what : Hop
who_bought_what = record {
  first = surface.Capture (codes "s") (tagged (codes "NNP"));
  rest =
      record { path = against (codes "nsubj"); surface = buy } ∷
      record { path = along (codes "obj"); surface = surface.Capture (codes "o") (tagged (codes "NNS")) } ∷ [];
}

abbrev bought : ℕ → ℕ → Match
bought s o = match_of o (o + 1) (capture (codes "s") s (s + 1) ∷ capture (codes "o") o (o + 1) ∷ [])

-- each pair has the later span, and the captures of both
pairs_of_a_hop : last_of (hop_lists who_bought_what deal []) ≡ bought 0 4 ∷ bought 0 6 ∷ bought 2 4 ∷ bought 2 6 ∷ []
unfolding scan_of scan_from first holds reached hidden hidden-the_row-Surface-0 hidden-the_row-Surface-1 hidden-the_row-Path-0 hidden-the_row-Path-1
pairs_of_a_hop = refl

few_pairs : hop_count most_found (hop_lists who_bought_what deal []) ≡ None
unfolding scan_of scan_from first holds reached hidden hidden-the_row-Surface-0 hidden-the_row-Surface-1 hidden-the_row-Path-0 hidden-the_row-Path-1
few_pairs = refl

-- ## Events

abbrev argument : List ℕ → Option (List ℕ) → Many → List ℕ → Argument
argument name label many relation = record { name = name; label = label; many = many; path = along relation }

-- `trigger = [lemma=buy]`, `buyer = >nsubj`, `thing = >obj`, `place? = >obl`, `every* = >obj`
abbrev purchase : EventRule
purchase = record {
  trigger = buy;
  arguments =
      argument (codes "buyer") None One (codes "nsubj") ∷ argument (codes "thing") None One (codes "obj") ∷
      argument (codes "place") None Optional (codes "obl") ∷ argument (codes "every") None All (codes "obj") ∷ [];
}

abbrev part : List ℕ → Option (List ℕ) → ℕ → ℕ → Part
part name label start end = record { name = name; label = label; start = start; end = end }

-- a rule of this kind, and what it finds in the sentence
abbrev rule_of : EventRule → Rule
rule_of e = record { name = codes "deal"; label = codes "Deal"; priority = record { first = 1; last = None }; body = body.Event e }

abbrev mentions_by : EventRule → Sentence → List Labelled → List Mention
mentions_by e s m = event_mentions (rule_of e) 0 5 e s m

-- its mention of the trigger with these arguments
abbrev found : List Part → Mention
found parts = record { document = 0; sentence = 5; start = 3; end = 4; label = codes "Deal"; rule = codes "deal"; parts = parts }

abbrev purchased : ℕ → ℕ → Mention
purchased buyer thing = found (part (codes "buyer") None buyer (buyer + 1) ∷ part (codes "thing") None thing (thing + 1) ∷ part (codes "every") None 4 5 ∷ part (codes "every") None 6 7 ∷ [])

-- the first argument varies slowest; where there is no place, it is absent
four_purchases : mentions_by purchase deal [] ≡ purchased 0 4 ∷ purchased 0 6 ∷ purchased 2 4 ∷ purchased 2 6 ∷ []
unfolding scan_of scan_from first holds reached hidden hidden-the_row-Surface-0 hidden-the_row-Surface-1 hidden-the_row-Path-0 hidden-the_row-Path-1
four_purchases = refl

few_purchases : event_count most_found purchase deal [] ≡ None
unfolding scan_of scan_from first holds reached hidden hidden-the_row-Surface-0 hidden-the_row-Surface-1 hidden-the_row-Path-0 hidden-the_row-Path-1
few_purchases = refl

-- without a place to be found, an argument that must be there leaves no mention
abbrev placed : Many → EventRule
placed many = record { trigger = buy; arguments = argument (codes "place") None many (codes "obl") ∷ [] }

one_is_missing : mentions_by (placed One) deal [] ≡ []
unfolding scan_of scan_from first holds reached hidden hidden-the_row-Surface-0 hidden-the_row-Surface-1 hidden-the_row-Path-0 hidden-the_row-Path-1
one_is_missing = refl

all_are_missing : mentions_by (placed AllOne) deal [] ≡ []
unfolding scan_of scan_from first holds reached hidden hidden-the_row-Surface-0 hidden-the_row-Surface-1 hidden-the_row-Path-0 hidden-the_row-Path-1
all_are_missing = refl

none_is_needed : mentions_by (placed All) deal [] ≡ found [] ∷ []
unfolding scan_of scan_from first holds reached hidden hidden-the_row-Surface-0 hidden-the_row-Surface-1 hidden-the_row-Path-0 hidden-the_row-Path-1
none_is_needed = refl

abbrev group : ℕ → ℕ → Labelled
group start end = record { label = codes "Group"; span = record { start = start; end = end } }

abbrev grouped : ℕ → ℕ → Mention
grouped start end = found (part (codes "who") (Some (codes "Group")) start end ∷ [])

-- `who:Group = >nsubj`: the spans with this label that have a reached token, each once, by start and then by end
by_label : mentions_by (record { trigger = buy; arguments = argument (codes "who") (Some (codes "Group")) One (codes "nsubj") ∷ [] }) deal
    (group 2 3 ∷ group 4 7 ∷ group 0 3 ∷ group 0 1 ∷ group 2 3 ∷ []) ≡ grouped 0 1 ∷ grouped 0 3 ∷ grouped 2 3 ∷ []
unfolding scan_of scan_from first holds reached hidden hidden-the_row-Surface-0 hidden-the_row-Surface-1 hidden-the_row-Path-0 hidden-the_row-Path-1
by_label = refl

-- ## Counts

-- arguments of 100 and 100 candidates are not too many, and 100 and 101 are
as_many_as_may_be : running most_found 0 1 (100 ∷ 100 ∷ []) ≡ product 10000
as_many_as_may_be = refl

one_too_many : running most_found 0 1 (100 ∷ 101 ∷ []) ≡ over 10100
one_too_many = refl

-- the count may pass the most within a product, and with the first value of one
within_a_product : running most_found 0 1 (101 ∷ 100 ∷ 2 ∷ []) ≡ over 10100
within_a_product = refl

at_the_most : running most_found 10000 1 [] ≡ over 10001
at_the_most = refl
