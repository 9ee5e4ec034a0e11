-- What a fault says.
use Rattle.od_rule_text.specs.declared.grammar_fault.GrammarFault.{GrammarFault}
use Rattle.od_rule_text.specs.declared.grammar_fault.GrammarFault.TheVariants.{NoMemory}

-- P of a fault; want of memory says nothing
abbrev pub Tells : (GrammarFault → Type 0) → GrammarFault → Type 0
Tells P NoMemory = Unit {0}
Tells P f = P f
