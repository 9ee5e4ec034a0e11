-- Why an item is no rule.
use Rattle.std.specs.Prelude.{ℕ, List}
use Rattle.od_rule_text.specs.declared.grammar_fault.GrammarFault.{GrammarFault}
use Rattle.od_rule_text.specs.declared.rule_file.KeyText.{KeyText}
use Rattle.od_rule_text.specs.Grammars.{rule_of}
use Rattle.od_item.specs.Answers.{IsFaultOf}
use Rattle.od_grammars.specs.Grammars.{patterns}

-- the first fault of an item, where these are the variables, n is its number and the earlier rules
-- have these names; or that memory was refused, of which nothing is said
abbrev pub IsRuleFault : (vars : List KeyText) (n : ℕ) (names : List (List ℕ)) →
    (item : List KeyText) → GrammarFault → Type 0
IsRuleFault vars n names item = IsFaultOf (rule_of patterns vars n names item)
