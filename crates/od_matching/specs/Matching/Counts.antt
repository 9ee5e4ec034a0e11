-- What the counts of hops and events say of the lists that they count,
-- and how the products of an event grow.
use Rattle.std.specs.Prelude.{◌≡◌, ◌↔◌, ℕ, ◌≤◌, ◌⊎◌, List, [], ◌∷◌, ◌++◌, length, map, None}
use Rattle.std.specs.List.{flat_map}
use Rattle.od_text.specs.Lists.{Each}
use Rattle.od_matching.specs.Matching.Hops.{later_of, last_of, hop_count}
use Rattle.od_matching.specs.Matching.Events.{products, event_mentions, event_count}
use Rattle.od_document.specs.declared.sentence.Sentence.{Sentence}
use Rattle.od_extraction.specs.declared.mention.Labelled.{Labelled}
use Rattle.od_extraction.specs.declared.mention.Match.{Match}
use Rattle.od_extraction.specs.declared.mention.Part.{Part}
use Rattle.od_pattern.specs.declared.rule.EventRule.{EventRule}
use Rattle.od_pattern.specs.declared.rule.Rule.{Rule}

-- an event has no count exactly where its mentions are no more than the most
abbrev pub EventCountIsNone : Type 0
EventCountIsNone =
    (most : ℕ) (r : Rule) (d k : ℕ) (e : EventRule) (s : Sentence) (m : List Labelled)
    → (event_count most e s m ≡ None) ↔ (length (event_mentions r d k e s m) ≤ most)

-- the lists after a hop are no longer than the most
abbrev pub AreFew : ℕ → List (List Match) → Type 0
AreFew most lists = Each (λ list. length list ≤ most) (later_of lists)

-- a hop has no count exactly where its last list is empty,
-- or each list after a hop is no longer than the most
abbrev pub HopCountIsNone : Type 0
HopCountIsNone =
    (most : ℕ) (lists : List (List Match))
    → (hop_count most lists ≡ None) ↔ ((last_of lists ≡ []) ⊎ AreFew most lists)

-- with the options of one argument more at the end, each of them stands behind each product of the others
abbrev pub ProductsGrow : Type 0
ProductsGrow =
    (options : List (List (List Part))) (last : List (List Part))
    → products (options ++ last ∷ []) ≡ flat_map (λ p. map (λ o. p ++ o) last) (products options)
