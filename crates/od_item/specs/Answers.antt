-- What is said of an answer: it is what a text says, or memory was refused.
use Rattle.std.specs.Prelude.{◌≡◌, Result, Ok, Err}
use Rattle.od_pattern.specs.declared.rule.Rule.{Rule}
use Rattle.od_language.specs.declared.pattern_fault.PatternFault.{PatternFault}
use Rattle.od_language.specs.declared.pattern_fault.PatternFault.TheVariants as pattern
use Rattle.od_rule_text.specs.declared.grammar_fault.GrammarFault.{GrammarFault}
use Rattle.od_rule_text.specs.declared.grammar_fault.GrammarFault.TheVariants as fault
use Rattle.od_rule_text.specs.Grammars.{Answer, Parsed}

-- the answer of a pattern's parser
abbrev pub TellsPattern : {X : Type 0} → Result X PatternFault → Parsed X → Type 0
TellsPattern (Ok x) parsed = parsed ≡ Ok x
TellsPattern (Err pattern.NoMemory) parsed = Unit {0}
TellsPattern (Err (pattern.Bad at k)) parsed = parsed ≡ Err (at, k)

-- the first fault, or that memory was refused
abbrev pub IsFaultOf : {X : Type 0} → Answer X → GrammarFault → Type 0
IsFaultOf answer fault.NoMemory = Unit {0}
IsFaultOf answer f = answer ≡ Err f

-- the answer of a rule's reader
abbrev pub TellsRule : Result Rule GrammarFault → Answer Rule → Type 0
TellsRule (Ok rule) answer = answer ≡ Ok rule
TellsRule (Err f) answer = IsFaultOf answer f
