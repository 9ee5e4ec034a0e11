-- Faults that say the same of another answer.
use Rattle.od_rule_text.specs.declared.grammar_fault.GrammarFault.{GrammarFault}
use Rattle.od_rule_text.specs.declared.grammar_fault.GrammarFault.TheVariants.{NoMemory}
use Rattle.od_grammar.specs.Telling.{Tells}

pub told : (P Q : GrammarFault → Type 0) → ((f : GrammarFault) → P f → Q f) → (f : GrammarFault) → Tells P f → Tells Q f
told P Q w NoMemory h = tt
told P Q w f h = w f h
