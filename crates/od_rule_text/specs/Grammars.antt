-- What a grammar's text says, or its first fault, however patterns are read and expressions are made.
use Rattle.std.specs.Prelude.{◌≡◌, ℕ, ◌+◌, not, Bool, List, [], ◌∷◌, ◌++◌, length, map, if◌then◌else◌, nat_lt, Option, None, Some, Result, Ok, Err, codes}
use Rattle.std.specs.Option.{option_or}
use Rattle.std.specs.List.{list_all}
use Rattle.od_pattern.specs.declared.grammar.GrammarKind.{GrammarKind}
use Rattle.od_pattern.specs.declared.grammar.GrammarKind.TheVariants.{RuleFile as OfRules, Query}
use Rattle.od_pattern.specs.declared.grammar.Grammar.{Grammar}
use Rattle.od_pattern.specs.declared.rule.Rule.{Rule}
use Rattle.od_pattern.specs.declared.rule.Hop.{Hop}
use Rattle.od_pattern.specs.declared.rule.EventRule.{EventRule}
use Rattle.od_pattern.specs.declared.rule.Body.{Body}
use Rattle.od_pattern.specs.declared.rule.Body.TheVariants.{Basic, Event}
use Rattle.od_pattern.specs.declared.rule.Priority.{Priority}
use Rattle.od_language.specs.declared.pattern_fault.PatternKind.{PatternKind}
use Rattle.od_language.specs.Identifier.{is_identifier}
use Rattle.od_rule_text.specs.declared.grammar_fault.GrammarLimit.{GrammarLimit}
use Rattle.od_rule_text.specs.declared.grammar_fault.GrammarLimit.TheVariants.{GrammarBytes, Rules, Vars, PatternBytes, Regexes}
use Rattle.od_rule_text.specs.declared.grammar_fault.GrammarFault.{GrammarFault}
use Rattle.od_rule_text.specs.declared.grammar_fault.GrammarFault.TheVariants as fault
use Rattle.od_rule_text.specs.declared.limits.TheConstants.{GRAMMAR_BYTES, GRAMMAR_RULES, GRAMMAR_VARS, PATTERN_BYTES, GRAMMAR_EXPRESSIONS}
use Rattle.od_rule_text.specs.declared.rule_file.KeyText.{KeyText}
use Rattle.od_rule_text.specs.declared.rule_file.RuleFile.{RuleFile}
use Rattle.od_rule_text.specs.declared.rule_file.YamlKind.{YamlKind}
use Rattle.od_rule_text.specs.RuleFiles.{rule_file_of}
use Rattle.od_rule_text.specs.Expansion.{Misfit, unknown, cycle, expanded}
use Rattle.od_rule_text.specs.Priorities.{rule_priority}
use Rattle.od_rule_text.specs.Items.{Fields, RuleType, basic, event, type_of, fields_of, has_rule_keys, is_rule_name}
use Rattle.od_rule_text.specs.Labels.{body_labels}
use Rattle.od_rule_text.specs.Expressions.{Appearance, first_appearances}
use Rattle.od_rule_text.specs.Texts.{is_among}

-- a value, or the first fault
abbrev pub Answer : Type 0 → Type 0
Answer X = Result X GrammarFault

-- what the text of a pattern says, or the place and kind of its first fault
abbrev pub Parsed : Type 0 → Type 0
Parsed X = Result X (ℕ × PatternKind)

-- How patterns are read: by `hop_of`, and in a rule of the type event by `event_of`.
-- What was read has the regular expressions `expressions_in`, in the order of the text.
pub record Patterns : Type 0 where
  pub hop_of : List ℕ → Parsed Hop
  pub event_of : List ℕ → Parsed EventRule
  pub expressions_in : Body → List (List ℕ)

-- ## Limits

-- the limit of each kind
abbrev pub limit_of : GrammarLimit → ℕ
limit_of GrammarBytes = GRAMMAR_BYTES
limit_of Rules = GRAMMAR_RULES
limit_of Vars = GRAMMAR_VARS
limit_of PatternBytes = PATTERN_BYTES
limit_of Regexes = GRAMMAR_EXPRESSIONS

-- that a limit is passed
abbrev pub passed : GrammarLimit → GrammarFault
passed which = fault.Limit which (limit_of which)

-- a list of which a limit speaks, where it is not passed
abbrev pub within : {X Y : Type 0} → GrammarLimit → List X → Answer Y → Answer Y
within which xs answer = if nat_lt (limit_of which) (length xs) then Err (passed which) else answer

-- ## The entries of a query

-- a key and its text
abbrev pub entry : List ℕ → List ℕ → KeyText
entry key value = record { key = key; value = value }

-- a query is one rule, of which only the pattern is written
abbrev pub query_entries : List ℕ → List KeyText
query_entries text =
    entry (codes "name") (codes "query") ∷ entry (codes "label") (codes "Query")
    ∷ entry (codes "type") (codes "basic") ∷ entry (codes "pattern") text ∷ []

-- ## The labels of all rules

-- whether each label that a rule names is that of some rule
abbrev pub names_labels_of : List Rule → Rule → Bool
names_labels_of rules rule = list_all (is_among (map (λ r. r.label) rules)) (body_labels rule.body)

-- that a rule names another label; the first of the rules that are left has the number n
abbrev pub label_fault : List Rule → (n : ℕ) → List Rule → Option GrammarFault
label_fault rules n [] = None
label_fault rules n (rule ∷ more) =
    if names_labels_of rules rule then label_fault rules (n + 1) more else Some (fault.UnknownLabel n)

-- ## Answers

-- one value in front of others, where these are there
abbrev pub one_more : {X : Type 0} → X → Answer (List X) → Answer (List X)
one_more x (Ok xs) = Ok (x ∷ xs)
one_more x (Err f) = Err f

-- what follows an answer, unless that is a fault
abbrev pub and_then : {X Y : Type 0} → Answer X → (X → Answer Y) → Answer Y
and_then (Ok x) more = more x
and_then (Err f) more = Err f

-- an answer, unless there is a fault
abbrev pub unless : {X : Type 0} → Option GrammarFault → X → Answer X
unless None x = Ok x
unless (Some f) x = Err f

-- ## Bodies

-- what was read, as a body
abbrev pub read_as : {X : Type 0} → (X → Body) → Parsed X → Parsed Body
read_as body (Ok x) = Ok (body x)
read_as body (Err f) = Err f

-- a rule with this body, or the first fault of its pattern
abbrev pub with_body : (n : ℕ) → Fields → Priority → Parsed Body → Answer Rule
with_body n f priority (Err p) = Err (fault.Pattern n p.0 p.1)
with_body n f priority (Ok body) =
    Ok (record { name = f.name; label = f.label; priority = priority; body = body })

-- ## Refused expressions

-- that an expression is not accepted; the first of those that are left has the number n
abbrev pub refusal : (accepts : List ℕ → Bool) (n : ℕ) → List Appearance → Option GrammarFault
refusal accepts n [] = None
refusal accepts n (a ∷ more) =
    if accepts a.expression then refusal accepts (n + 1) more else Some (fault.RegexRefused a.rule n)

-- ## From a text to its grammar

module _ (patterns : Patterns) where
  -- ## One rule, of the number n from 1

  -- the body of a rule
  abbrev pub body_of : RuleType → List ℕ → Parsed Body
  body_of basic text = read_as Basic (patterns.hop_of text)
  body_of event text = read_as Event (patterns.event_of text)

  -- the rule whose pattern has this text once its variables are replaced
  abbrev pub with_text : (n : ℕ) → Fields → RuleType → Priority → Result (List ℕ) Misfit → Answer Rule
  with_text n f type priority (Err unknown) = Err (fault.UnknownVar n)
  with_text n f type priority (Err (cycle name)) = Err (fault.VarCycle name)
  with_text n f type priority (Ok text) =
      within PatternBytes text (with_body n f priority (body_of type text))

  -- the rule of this priority
  abbrev pub with_priority : List KeyText → (n : ℕ) → Fields → RuleType → Option Priority → Answer Rule
  with_priority vars n f type None = Err (fault.BadPriority n)
  with_priority vars n f type (Some priority) = with_text n f type priority (expanded vars f.pattern)

  -- the rule of this type
  abbrev pub with_type : List KeyText → (n : ℕ) → Fields → Option RuleType → Answer Rule
  with_type vars n f None = Err (fault.BadType n)
  with_type vars n f (Some type) = with_priority vars n f type (rule_priority f.priority)

  -- the rule that some fields say; `names` are those of the earlier rules
  abbrev pub with_fields : List KeyText → (n : ℕ) (names : List (List ℕ)) → Option Fields → Answer Rule
  with_fields vars n names None = Err (fault.MissingKey n)
  with_fields vars n names (Some f) =
      if not (is_rule_name f.name) then Err (fault.BadName n) else
      if is_among names f.name then Err (fault.SameName n) else
      if not (is_identifier f.label) then Err (fault.BadLabel n) else
      with_type vars n f (type_of f.type)

  -- the rule of an item, or its first fault
  abbrev pub rule_of : List KeyText → (n : ℕ) (names : List (List ℕ)) → List KeyText → Answer Rule
  rule_of vars n names item =
      if has_rule_keys item then with_fields vars n names (fields_of item) else Err (fault.UnknownKey n)

  -- ## All rules

  -- one after another; the first of the items that are left has the number n
  abbrev pub rules_of : List KeyText → (n : ℕ) (names : List (List ℕ)) →
      List (List KeyText) → Answer (List Rule)
  rules_of vars n names [] = Ok []
  rules_of vars n names (item ∷ items) =
      and_then (rule_of vars n names item)
      (λ rule. one_more rule (rules_of vars (n + 1) (names ++ rule.name ∷ []) items))

  -- of a rule file
  abbrev pub file_rules : Result RuleFile (ℕ × YamlKind) → Answer (List Rule)
  file_rules (Err f) = Err (fault.Yaml f.0 f.1)
  file_rules (Ok file) =
      within Rules file.rules (within Vars file.vars (rules_of file.vars 1 [] file.rules))

  -- of a text; a query has no variables
  abbrev pub text_rules : GrammarKind → List ℕ → Answer (List Rule)
  text_rules OfRules text = file_rules (rule_file_of text)
  text_rules Query text = rules_of [] 1 [] (query_entries text ∷ [])

  -- ## The grammar

  -- that the different expressions of rules are more than there is room for
  abbrev pub room_fault : (room : ℕ) → List Rule → Option GrammarFault
  room_fault room rules =
      if nat_lt room (length (first_appearances patterns.expressions_in rules))
      then Some (passed Regexes)
      else None

  -- unknown labels of all rules, then more expressions than there is room for
  abbrev pub whole_fault : (room : ℕ) → List Rule → Option GrammarFault
  whole_fault room rules = option_or (label_fault rules 1 rules) (room_fault room rules)

  -- these rules as a grammar, unless they have a fault as a whole
  abbrev pub grammar_with : GrammarKind → List ℕ → (room : ℕ) → List Rule → Answer Grammar
  grammar_with kind text room rules =
      unless (whole_fault room rules) (record { kind = kind; text = text; rules = rules })

  -- the grammar that a text is, with room for so many different expressions, or its first fault
  unfoldable pub grammar_read : GrammarKind → List ℕ → (room : ℕ) → Answer Grammar
  grammar_read kind text room =
      within GrammarBytes text (and_then (text_rules kind text) (grammar_with kind text room))

  -- ## With a maker, which accepts some expressions

  module _ (accepts : List ℕ → Bool) where
    -- a grammar, unless one of its expressions is not accepted
    abbrev pub unless_refused : Grammar → Answer Grammar
    unless_refused grammar =
        unless (refusal accepts 1 (first_appearances patterns.expressions_in grammar.rules)) grammar

    -- the grammar whose expressions can be made, or why there is none
    abbrev pub grammar_made : GrammarKind → List ℕ → (room : ℕ) → Answer Grammar
    grammar_made kind text room = and_then (grammar_read kind text room) unless_refused

    -- what a reader may answer in place of a grammar: why there is none, or that memory was refused
    abbrev pub IsGrammarFault : GrammarKind → List ℕ → (room : ℕ) → GrammarFault → Type 0
    IsGrammarFault kind text room fault.NoMemory = Unit {0}
    IsGrammarFault kind text room f = grammar_made kind text room ≡ Err f
