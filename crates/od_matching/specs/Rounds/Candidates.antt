-- A round that looks at some of the sentences only, for each rule at sentences of its own.
use Rattle.std.specs.Prelude.{◌≡◌, ℕ, true, Bool, List, [], length, filter, flat_map, sum_by}
use Rattle.od_pattern.specs.declared.rule.Rule.{Rule}
use Rattle.od_pattern.specs.declared.grammar.Grammar.{Grammar}
use Rattle.od_extraction.specs.declared.mention.Mention.{Mention}
use Rattle.od_matching.specs.Matching.Rules.{mentions}
use Rattle.od_matching.specs.Rounds.Round.{Item, outcome_at, items_over}
use Rattle.od_matching.specs.Rounds.Sites.{Site, rules_in}

-- which sentences are kept for a numbered rule
abbrev pub Choice : Type 0
Choice = ℕ × Rule → Site → Bool

-- each sentence is kept on which the rule gives anything but no mention
abbrev pub KeepsAll : List Mention → ℕ × Rule → (Site → Bool) → Type 0
KeepsAll old rule keep =
    (site : Site) → (outcome_at old rule.1 site ≡ mentions [] → ⊥) → keep site ≡ true

-- what the rules of a round give on the sentences that are kept for them
abbrev pub items_kept : Choice → List Site → Grammar → ℕ → List Mention → List Item
items_kept keep ss g r old =
    flat_map (λ rule. items_over (filter (keep rule) ss) old rule) (rules_in r g)

-- how many sentences are opened for that
abbrev pub openings : Choice → List Site → Grammar → ℕ → ℕ
openings keep ss g r = sum_by (λ rule. length (filter (keep rule) ss)) (rules_in r g)
