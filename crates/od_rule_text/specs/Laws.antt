-- Laws of what rule files and grammars say.
use Rattle.std.specs.Prelude.{◌≡◌, ◌↔◌, ◌⊎◌, ℕ, ◌+◌, Bool, ◌≤◌, ◌<◌, false, true, List, [], ◌∷◌, ◌++◌, length, map, max, None, Some, Ok, Err, codes, decimal}
use Rattle.std.specs.List.{AllZip, list_all}
use Rattle.std.specs.Str.Lines.{lines}
use Rattle.od_text.specs.Lists.{Each, EachPoint}
use Rattle.od_pattern.specs.declared.grammar.GrammarKind.{GrammarKind}
use Rattle.od_pattern.specs.declared.grammar.GrammarKind.TheVariants.{RuleFile as OfRules}
use Rattle.od_pattern.specs.declared.grammar.Grammar.{Grammar}
use Rattle.od_pattern.specs.declared.rule.Rule.{Rule}
use Rattle.od_pattern.specs.declared.rule.Body.{Body}
use Rattle.od_pattern.specs.declared.rule.Priority.{Priority}
use Rattle.od_language.specs.Identifier.{is_identifier}
use Rattle.od_rule_text.specs.declared.grammar_fault.GrammarFault.{GrammarFault}
use Rattle.od_rule_text.specs.declared.grammar_fault.GrammarFault.TheVariants as fault
use Rattle.od_rule_text.specs.declared.limits.TheConstants.{PATTERN_BYTES, LAST_ROUND}
use Rattle.od_rule_text.specs.declared.rule_file.KeyText.{KeyText}
use Rattle.od_rule_text.specs.declared.rule_file.RuleFile.{RuleFile}
use Rattle.od_rule_text.specs.declared.rule_file.YamlKind.{YamlKind}
use Rattle.od_rule_text.specs.Texts.{is_among}
use Rattle.od_rule_text.specs.RuleFiles.{has_key, rule_file_of}
use Rattle.od_rule_text.specs.Written.{written_file}
use Rattle.od_rule_text.specs.Expansion.{has_opening, expanded}
use Rattle.od_rule_text.specs.Priorities.{priority_of, rule_priority}
use Rattle.od_rule_text.specs.Items.{RuleType, type_of, value_of, is_rule_name}
use Rattle.od_rule_text.specs.Expressions.{Appearance, first_appearances, expressions_of}
use Rattle.od_rule_text.specs.Grammars.{Patterns, names_labels_of, body_of, grammar_read, grammar_made}

-- a text in which no `${` stands is its own expansion, whatever the variables
abbrev pub KeepsPlainTexts : Type 0
KeepsPlainTexts =
    (vars : List KeyText) (text : List ℕ) → has_opening text ≡ false → expanded vars text ≡ Ok text

-- ## Rule files

-- the keys of some entries are identifiers, each another one than those before it
pub record HasKeys (entries : List KeyText) : Type 0 where
  pub identifiers : Each (λ e. is_identifier e.key ≡ true) entries
  pub distinct : EachPoint (λ before e. has_key e.key before ≡ false) entries

-- an item has some entries, with keys
pub record IsItem (entries : List KeyText) : Type 0 where
  pub some : 0 < length entries
  pub keys : HasKeys entries

-- a rule file has variables with keys, and some items
pub record IsRuleFile (file : RuleFile) : Type 0 where
  pub vars : HasKeys file.vars
  pub some : 0 < length file.rules
  pub items : Each IsItem file.rules

-- the rule file that a text is has keys that differ, and some items with some entries
abbrev pub ReadsRuleFiles : Type 0
ReadsRuleFiles = (text : List ℕ) (file : RuleFile) → rule_file_of text ≡ Ok file → IsRuleFile file

-- the line of a first fault is one of the text, or 1
abbrev pub TellsLines : Type 0
TellsLines =
    (text : List ℕ) (line : ℕ) (kind : YamlKind) → rule_file_of text ≡ Err (line, kind) →
    (1 ≤ line) × (line ≤ max 1 (length (lines text)))

-- a rule file with such keys, written out, is read as what was written
abbrev pub ReadsBack : Type 0
ReadsBack = (file : RuleFile) → IsRuleFile file → rule_file_of (written_file file) ≡ Ok file

-- ## Grammars, however patterns are read

-- a body is what a pattern says in a rule of a type, once its variables are replaced
pub record IsBodyOf (patterns : Patterns) (vars : List KeyText) (written pattern : List ℕ)
    (body : Body) : Type 0 where
  pub type : RuleType
  pub text : List ℕ
  pub typed : type_of written ≡ Some type
  pub expands : expanded vars pattern ≡ Ok text
  pub small : length text ≤ PATTERN_BYTES
  pub reads : body_of patterns type text ≡ Ok body

-- a rule is what an item says, where these are the variables
pub record IsRuleOf (patterns : Patterns) (vars item : List KeyText) (rule : Rule) : Type 0 where
  pub name : value_of (codes "name") item ≡ Some rule.name
  pub label : value_of (codes "label") item ≡ Some rule.label
  pub priority : rule_priority (value_of (codes "priority") item) ≡ Some rule.priority
  pub type : List ℕ
  pub pattern : List ℕ
  pub has_type : value_of (codes "type") item ≡ Some type
  pub has_pattern : value_of (codes "pattern") item ≡ Some pattern
  pub body : IsBodyOf patterns vars type pattern rule.body

-- a grammar of a rule file has a rule for each item, in the order of the file
abbrev pub KeepsOrder : Type 0
KeepsOrder =
    (patterns : Patterns) (text : List ℕ) (room : ℕ) (grammar : Grammar) →
    grammar_read patterns OfRules text room ≡ Ok grammar →
    (file : RuleFile) × (rule_file_of text ≡ Ok file) ×
    AllZip (IsRuleOf patterns file.vars) file.rules grammar.rules

-- a rule has another name than those before it
abbrev pub HasNewName : List Rule → Rule → Type 0
HasNewName before rule = is_among (map (λ r. r.name) before) rule.name ≡ false

-- what every grammar has that a text is
pub record IsOfText (patterns : Patterns) (kind : GrammarKind) (text : List ℕ)
    (room : ℕ) (grammar : Grammar) : Type 0 where
  pub same_kind : grammar.kind ≡ kind
  pub same_text : grammar.text ≡ text
  pub distinct : EachPoint HasNewName grammar.rules
  pub named : Each (λ r. is_rule_name r.name ≡ true) grammar.rules
  pub labelled : Each (λ r. is_identifier r.label ≡ true) grammar.rules
  pub known : Each (λ r. names_labels_of grammar.rules r ≡ true) grammar.rules
  pub fits : length (expressions_of patterns.expressions_in grammar.rules) ≤ room

-- the grammar that is read from a text is one of that text
abbrev pub ReadsGrammars : Type 0
ReadsGrammars =
    (patterns : Patterns) (kind : GrammarKind) (text : List ℕ) (room : ℕ) (grammar : Grammar) →
    grammar_read patterns kind text room ≡ Ok grammar → IsOfText patterns kind text room grammar

-- where there is more room, the same grammar is read
abbrev pub KeepsWithMoreRoom : Type 0
KeepsWithMoreRoom =
    (patterns : Patterns) (kind : GrammarKind) (text : List ℕ) (room more : ℕ) (grammar : Grammar) →
    room ≤ more → grammar_read patterns kind text room ≡ Ok grammar →
    grammar_read patterns kind text more ≡ Ok grammar

-- whether a fault is one of a text: neither want of memory nor an expression that was refused
abbrev pub IsTextFault : GrammarFault → Type 0
IsTextFault fault.NoMemory = ⊥
IsTextFault (fault.RegexRefused rule number) = ⊥
IsTextFault f = Unit {0}

-- the first fault of a text is one of a text
abbrev pub HasTextFaults : Type 0
HasTextFaults =
    (patterns : Patterns) (kind : GrammarKind) (text : List ℕ) (room : ℕ) (f : GrammarFault) →
    grammar_read patterns kind text room ≡ Err f → IsTextFault f

-- An expression was refused: the text is a grammar, the expressions before this one were accepted,
-- and the fault tells its number, from 1, and the rule of its first appearance.
pub record IsRefused (patterns : Patterns) (accepts : List ℕ → Bool) (kind : GrammarKind) (text : List ℕ)
    (room : ℕ) (f : GrammarFault) : Type 0 where
  pub grammar : Grammar
  pub reads : grammar_read patterns kind text room ≡ Ok grammar
  pub before : List Appearance
  pub refused : Appearance
  pub behind : List Appearance
  pub parts : first_appearances patterns.expressions_in grammar.rules ≡ before ++ refused ∷ behind
  pub accepted : list_all (λ a. accepts a.expression) before ≡ true
  pub not_accepted : accepts refused.expression ≡ false
  pub tells : f ≡ fault.RegexRefused refused.rule (length before + 1)

-- where a grammar is made, the text is one, and all its expressions are accepted;
-- where none is made, the fault is the text's, or that of the first expression that is not accepted
pub record MakesGrammars : Type 0 where
  pub made : (patterns : Patterns) (accepts : List ℕ → Bool) (kind : GrammarKind) (text : List ℕ)
      (room : ℕ) (grammar : Grammar) → grammar_made patterns accepts kind text room ≡ Ok grammar →
      (grammar_read patterns kind text room ≡ Ok grammar) ×
      (list_all accepts (expressions_of patterns.expressions_in grammar.rules) ≡ true)
  pub refused : (patterns : Patterns) (accepts : List ℕ → Bool) (kind : GrammarKind) (text : List ℕ)
      (room : ℕ) (f : GrammarFault) → grammar_made patterns accepts kind text room ≡ Err f →
      (grammar_read patterns kind text room ≡ Err f) ⊎ IsRefused patterns accepts kind text room f

-- ## Priorities

-- a round that a priority may name
abbrev pub IsRound : ℕ → Type 0
IsRound n = (1 ≤ n) × (n ≤ LAST_ROUND)

-- what may be written for a priority
pub data IsWritten (text : List ℕ) (p : Priority) : Type 0 where
  one_round : (n : ℕ) → IsRound n → text ≡ decimal n →
      p ≡ record { first = n; last = Some n } → IsWritten text p
  range : (n m : ℕ) → IsRound n → IsRound m → n ≤ m → text ≡ decimal n ++ 45 ∷ decimal m →
      p ≡ record { first = n; last = Some m } → IsWritten text p
  endless : (n : ℕ) → IsRound n → text ≡ decimal n ++ 43 ∷ [] →
      p ≡ record { first = n; last = None } → IsWritten text p

-- a text is a priority exactly where it is written for it
abbrev pub ReadsPriorities : Type 0
ReadsPriorities = (text : List ℕ) (p : Priority) → (priority_of text ≡ Some p) ↔ IsWritten text p
