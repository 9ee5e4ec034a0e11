-- The program's words, its exit statuses and its diagnostics.
use Rattle.std.specs.Prelude.{ℕ, List, [], ◌∷◌, ◌++◌, Bool, false, bytes_eq, codes, decimal}
use Rattle.od_language.specs.declared.pattern_fault.PatternKind.{PatternKind}
use Rattle.od_language.specs.declared.pattern_fault.PatternKind.TheVariants.{Lex, Expected, UnknownField, BadRange, NullableRepeat, SameCapture, RegexLong, TooDeep, TooBig}
use Rattle.od_rule_text.specs.declared.grammar_fault.GrammarFault.{GrammarFault}
use Rattle.od_rule_text.specs.declared.grammar_fault.GrammarFault.TheVariants as fault
use Rattle.od_rule_text.specs.declared.grammar_fault.GrammarLimit.{GrammarLimit}
use Rattle.od_rule_text.specs.declared.grammar_fault.GrammarLimit.TheVariants.{GrammarBytes, Rules, Vars, PatternBytes, Regexes}
use Rattle.od_rule_text.specs.declared.rule_file.YamlKind.{YamlKind}
use Rattle.od_rule_text.specs.declared.rule_file.YamlKind.TheVariants.{Tab, Indent, Item, BadKey, SameKey, BadScalar, NoRules}
use Rattle.od_order.specs.declared.script_kind.ScriptKind.{ScriptKind}
use Rattle.od_order.specs.declared.script_kind.ScriptKind.TheVariants.{TooLong, NotUtf8, BadWord, LateHead, NoClient, Shape, BadName, BadNumber, SameHead, ShortBlock, TooMany}
use Rattle.od_model.specs.declared.status.Status.{Status}
use Rattle.od_model.specs.declared.status.Status.TheVariants.{Done, Refused, Usage, NoScript, BadGrammar, ReadFault, WriteFault, NoMemory}

-- the one word `serve`
abbrev pub is_serve : List (List ℕ) → Bool
is_serve (word ∷ []) = bytes_eq word (codes "serve")
is_serve words = false

abbrev pub exit_status : Status → ℕ
exit_status Done = 0
exit_status Refused = 1
exit_status Usage = 2
exit_status (NoScript line kind) = 3
exit_status (BadGrammar name fault) = 4
exit_status ReadFault = 7
exit_status WriteFault = 8
exit_status NoMemory = 9

-- the kind of a script's fault, as a text
abbrev pub kind_text : ScriptKind → List ℕ
kind_text TooLong = codes "TooLong"
kind_text NotUtf8 = codes "NotUtf8"
kind_text BadWord = codes "BadWord"
kind_text LateHead = codes "LateHead"
kind_text NoClient = codes "NoClient"
kind_text Shape = codes "Shape"
kind_text BadName = codes "BadName"
kind_text BadNumber = codes "BadNumber"
kind_text SameHead = codes "SameHead"
kind_text ShortBlock = codes "ShortBlock"
kind_text TooMany = codes "TooMany"

-- the kind of a limit, as a text
abbrev pub limit_text : GrammarLimit → List ℕ
limit_text GrammarBytes = codes "GrammarBytes"
limit_text Rules = codes "Rules"
limit_text Vars = codes "Vars"
limit_text PatternBytes = codes "PatternBytes"
limit_text Regexes = codes "Regexes"

-- the kind of a rule file's fault
abbrev pub yaml_text : YamlKind → List ℕ
yaml_text Tab = codes "Tab"
yaml_text Indent = codes "Indent"
yaml_text Item = codes "Item"
yaml_text BadKey = codes "BadKey"
yaml_text SameKey = codes "SameKey"
yaml_text BadScalar = codes "BadScalar"
yaml_text NoRules = codes "NoRules"

-- the kind of a pattern's fault
abbrev pub pattern_text : PatternKind → List ℕ
pattern_text Lex = codes "Lex"
pattern_text Expected = codes "Expected"
pattern_text UnknownField = codes "UnknownField"
pattern_text BadRange = codes "BadRange"
pattern_text NullableRepeat = codes "NullableRepeat"
pattern_text SameCapture = codes "SameCapture"
pattern_text RegexLong = codes "RegexLong"
pattern_text TooDeep = codes "TooDeep"
pattern_text TooBig = codes "TooBig"

-- why a grammar is refused: the fault's name, then each of its fields by name and value
abbrev pub fault_text : GrammarFault → List ℕ
fault_text (fault.Limit which limit) = codes "Limit which " ++ limit_text which ++ codes " limit " ++ decimal limit
fault_text (fault.Yaml line kind) = codes "Yaml line " ++ decimal line ++ codes " kind " ++ yaml_text kind
fault_text (fault.UnknownKey rule) = codes "UnknownKey rule " ++ decimal rule
fault_text (fault.MissingKey rule) = codes "MissingKey rule " ++ decimal rule
fault_text (fault.BadName rule) = codes "BadName rule " ++ decimal rule
fault_text (fault.SameName rule) = codes "SameName rule " ++ decimal rule
fault_text (fault.BadLabel rule) = codes "BadLabel rule " ++ decimal rule
fault_text (fault.BadType rule) = codes "BadType rule " ++ decimal rule
fault_text (fault.BadPriority rule) = codes "BadPriority rule " ++ decimal rule
fault_text (fault.UnknownVar rule) = codes "UnknownVar rule " ++ decimal rule
fault_text (fault.VarCycle var) = codes "VarCycle var " ++ var
fault_text (fault.Pattern rule at kind) = codes "Pattern rule " ++ decimal rule ++ codes " at " ++ decimal at ++ codes " kind " ++ pattern_text kind
fault_text (fault.UnknownLabel rule) = codes "UnknownLabel rule " ++ decimal rule
fault_text (fault.RegexRefused rule number) = codes "RegexRefused rule " ++ decimal rule ++ codes " number " ++ decimal number
fault_text fault.NoMemory = codes "NoMemory"

-- the line for each status from 2 on
abbrev pub diagnostic : Status → List ℕ
diagnostic Done = []
diagnostic Refused = []
diagnostic Usage = codes "odinson: usage: see help\n"
diagnostic (NoScript line kind) = codes "odinson: script line " ++ decimal line ++ codes ": " ++ kind_text kind ++ codes "\n"
diagnostic (BadGrammar name fault) = codes "odinson: grammar " ++ name ++ codes ": " ++ fault_text fault ++ codes "\n"
diagnostic ReadFault = codes "odinson: read fault\n"
diagnostic WriteFault = codes "odinson: write fault\n"
diagnostic NoMemory = codes "odinson: no memory\n"
