-- What a fault of a pattern says: which rule, and where in the text of its pattern.
use Rattle.std.specs.Prelude.{◌≡◌, ℕ, ◌+◌, List, [], ◌∷◌, ◌++◌, length, Some, Ok, Err, codes}
use Rattle.std.specs.Str.{chars}
use Rattle.od_pattern.specs.declared.grammar.GrammarKind.TheVariants.{RuleFile as OfRules, Query}
use Rattle.od_language.specs.declared.pattern_fault.PatternKind.{PatternKind}
use Rattle.od_rule_text.specs.declared.grammar_fault.GrammarFault.TheVariants as fault
use Rattle.od_rule_text.specs.declared.rule_file.KeyText.{KeyText}
use Rattle.od_rule_text.specs.declared.rule_file.RuleFile.{RuleFile}
use Rattle.od_rule_text.specs.Expansion.{expanded}
use Rattle.od_rule_text.specs.Items.{RuleType, type_of, value_of}
use Rattle.od_rule_text.specs.RuleFiles.{rule_file_of}
use Rattle.od_syntax.specs.Texts.{IsHopTextFault}
use Rattle.od_grammars.specs.Bodies.{IsBodyFault}
use Rattle.od_grammars.specs.Grammars.{grammar_read}

-- an item, where these are the variables, has a pattern whose text has this first fault
pub record IsPatternOf (vars item : List KeyText) (at : ℕ) (k : PatternKind) : Type 0 where
  pub type_text : List ℕ
  pub pattern : List ℕ
  pub has_type : value_of (codes "type") item ≡ Some type_text
  pub has_pattern : value_of (codes "pattern") item ≡ Some pattern
  pub type : RuleType
  pub typed : type_of type_text ≡ Some type
  pub text : List ℕ
  pub expands : expanded vars pattern ≡ Ok text
  pub first_fault : IsBodyFault type text at k

-- the item of this number, from 1, has such a pattern
pub record IsPatternAt (vars : List KeyText) (items : List (List KeyText))
    (n at : ℕ) (k : PatternKind) : Type 0 where
  pub before : List (List KeyText)
  pub item : List KeyText
  pub behind : List (List KeyText)
  pub parts : items ≡ before ++ item ∷ behind
  pub number : n ≡ length before + 1
  pub is : IsPatternOf vars item at k

-- of a rule file the fault of a pattern is that of the rule whose number it has
abbrev pub RuleFaultsAreMeant : Type 0
RuleFaultsAreMeant =
    (text : List ℕ) (room n at : ℕ) (k : PatternKind) →
    grammar_read OfRules text room ≡ Err (fault.Pattern n at k) →
    (file : RuleFile) × (rule_file_of text ≡ Ok file) × IsPatternAt file.vars file.rules n at k

-- of a query it is that of rule 1, and of the query's text as a hop
abbrev pub QueryFaultsAreMeant : Type 0
QueryFaultsAreMeant =
    (text : List ℕ) (room n at : ℕ) (k : PatternKind) →
    grammar_read Query text room ≡ Err (fault.Pattern n at k) →
    (n ≡ 1) × (whole : List ℕ) × (expanded [] text ≡ Ok whole) ×
    IsHopTextFault (chars whole) at k
