-- The labels of rules.
use Rattle.std.specs.Prelude.{◌≡◌, ℕ, ◌||◌, List, map}
use Rattle.std.specs.Str.{bytes_eq}
use Rattle.od_pattern.specs.declared.rule.Rule.{Rule}
use Rattle.od_rule_text.specs.declared.grammar_fault.GrammarFault.{GrammarFault}
use Rattle.od_rule_text.specs.declared.grammar_fault.GrammarFault.TheVariants.{UnknownLabel}
use Rattle.od_rule_text.specs.Texts.{is_among}

-- these are the labels of rules, in whatever order
abbrev pub AreLabels : List (List ℕ) → List Rule → Type 0
AreLabels labels rules =
    (name : List ℕ) → is_among labels name ≡ is_among (map (λ r. r.label) rules) name

-- this label is there too
abbrev pub AddsLabel : List ℕ → (before after : List (List ℕ)) → Type 0
AddsLabel label before after =
    (name : List ℕ) → is_among after name ≡ (is_among before name || bytes_eq label name)

-- that the rule of this number names an unknown label
abbrev pub unknown_label : ℕ → GrammarFault
unknown_label number = UnknownLabel number
