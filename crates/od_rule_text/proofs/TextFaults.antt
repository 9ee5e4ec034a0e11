-- No test of a text answers want of memory, or an expression that was refused.
use Rattle.std.proofs.Common.{ℕ, ◌+◌, List, [], ◌∷◌, ◌++◌, length, Bool, true, false, Option, Some, None, Result, Ok, Err}
use Rattle.std.specs.Prelude.{if◌then◌else◌, nat_lt, not, IfErr}
use Rattle.std.specs.Option.{option_or}
use Rattle.od_pattern.specs.declared.grammar.GrammarKind.{GrammarKind}
use Rattle.od_pattern.specs.declared.grammar.GrammarKind.TheVariants.{RuleFile as OfRules, Query}
use Rattle.od_pattern.specs.declared.rule.Rule.{Rule}
use Rattle.od_pattern.specs.declared.rule.Body.{Body}
use Rattle.od_pattern.specs.declared.rule.Priority.{Priority}
use Rattle.od_language.specs.Identifier.{is_identifier}
use Rattle.od_rule_text.specs.declared.grammar_fault.GrammarFault.{GrammarFault}
use Rattle.od_rule_text.specs.declared.grammar_fault.GrammarLimit.{GrammarLimit}
use Rattle.od_rule_text.specs.declared.grammar_fault.GrammarLimit.TheVariants.{GrammarBytes, Rules, Vars, PatternBytes}
use Rattle.od_rule_text.specs.declared.rule_file.KeyText.{KeyText}
use Rattle.od_rule_text.specs.declared.rule_file.RuleFile.{RuleFile}
use Rattle.od_rule_text.specs.declared.rule_file.YamlKind.{YamlKind}
use Rattle.od_rule_text.specs.Texts.{is_among}
use Rattle.od_rule_text.specs.RuleFiles.{rule_file_of}
use Rattle.od_rule_text.specs.Expansion.{Misfit, unknown, cycle, expanded}
use Rattle.od_rule_text.specs.Priorities.{rule_priority}
use Rattle.od_rule_text.specs.Items.{Fields, RuleType, type_of, fields_of, has_rule_keys, is_rule_name}
use Rattle.od_rule_text.specs.Expressions.{first_appearances}
use Rattle.od_rule_text.specs.Grammars.{Parsed, Patterns, within, limit_of, names_labels_of, label_fault, whole_fault, unless, with_body, body_of, with_text, with_priority, with_type, with_fields, rule_of, rules_of, file_rules, text_rules, query_entries, grammar_read}
use Rattle.od_rule_text.specs.Laws.{IsTextFault, HasTextFaults}
use Rattle.od_rule_text.proofs.Outcomes.{if-errs, and_then-errs, one_more-errs, err-of}

-- an answer that is none of those
abbrev IsTold : {X : Type 0} → Result X GrammarFault → Type 0
IsTold r = IfErr r IsTextFault

within_told : {X Y : Type 0} (which : GrammarLimit) (xs : List X) (r : Result Y GrammarFault) → IsTold r → IsTold (within which xs r)
within_told which xs r h = if-errs IsTextFault (nat_lt (limit_of which) (length xs)) _ r tt h

-- ## Faults of a whole grammar

abbrev IsToldFault : Option GrammarFault → Type 0
IsToldFault None = Unit {0}
IsToldFault (Some f) = IsTextFault f

unless_told : {X : Type 0} (o : Option GrammarFault) (x : X) → IsToldFault o → IsTold (unless o x)
unless_told None x h = tt
unless_told (Some f) x h = h

either_told : (o p : Option GrammarFault) → IsToldFault o → IsToldFault p → IsToldFault (option_or o p)
either_told None p h k = k
either_told (Some f) p h k = h

if_told : (t : Bool) (o p : Option GrammarFault) → IsToldFault o → IsToldFault p → IsToldFault (if t then o else p)
if_told true o p h k = h
if_told false o p h k = k

label_told : (rules : List Rule) (n : ℕ) (left : List Rule) → IsToldFault (label_fault rules n left)
label_told rules n [] = tt
label_told rules n (r ∷ more) = if_told (names_labels_of rules r) _ _ (label_told rules (n + 1) more) tt

module _ (patterns : Patterns) where
  -- ## One rule

  body_told : (n : ℕ) (f : Fields) (p : Priority) (b : Parsed Body) → IsTold (with_body n f p b)
  body_told n f p (Err e) = tt
  body_told n f p (Ok body) = tt

  text_told : (n : ℕ) (f : Fields) (t : RuleType) (p : Priority) (x : Result (List ℕ) Misfit) → IsTold (with_text patterns n f t p x)
  text_told n f t p (Err unknown) = tt
  text_told n f t p (Err (cycle name)) = tt
  text_told n f t p (Ok text) = within_told PatternBytes text _ (body_told n f p (body_of patterns t text))

  priority_told : (vars : List KeyText) (n : ℕ) (f : Fields) (t : RuleType) (o : Option Priority) → IsTold (with_priority patterns vars n f t o)
  priority_told vars n f t None = tt
  priority_told vars n f t (Some p) = text_told n f t p (expanded vars f.pattern)

  type_told : (vars : List KeyText) (n : ℕ) (f : Fields) (o : Option RuleType) → IsTold (with_type patterns vars n f o)
  type_told vars n f None = tt
  type_told vars n f (Some t) = priority_told vars n f t (rule_priority f.priority)

  fields_told : (vars : List KeyText) (n : ℕ) (names : List (List ℕ)) (o : Option Fields) → IsTold (with_fields patterns vars n names o)
  fields_told vars n names None = tt
  fields_told vars n names (Some f) =
      if-errs IsTextFault (not (is_rule_name f.name)) _ _ tt
      (if-errs IsTextFault (is_among names f.name) _ _ tt
      (if-errs IsTextFault (not (is_identifier f.label)) _ _ tt (type_told vars n f (type_of f.type))))

  rule_told : (vars : List KeyText) (n : ℕ) (names : List (List ℕ)) (item : List KeyText) → IsTold (rule_of patterns vars n names item)
  rule_told vars n names item = if-errs IsTextFault (has_rule_keys item) _ _ (fields_told vars n names (fields_of item)) tt

  -- ## All rules

  rules_told : (vars : List KeyText) (n : ℕ) (names : List (List ℕ)) (items : List (List KeyText)) → IsTold (rules_of patterns vars n names items)
  rules_told vars n names [] = tt
  rules_told vars n names (item ∷ items) =
      and_then-errs IsTextFault (rule_of patterns vars n names item) _ (rule_told vars n names item)
      (λ r. one_more-errs IsTextFault r (rules_of patterns vars (n + 1) (names ++ r.name ∷ []) items) (rules_told vars (n + 1) (names ++ r.name ∷ []) items))

  file_told : (x : Result RuleFile (ℕ × YamlKind)) → IsTold (file_rules patterns x)
  file_told (Err f) = tt
  file_told (Ok file) = within_told Rules file.rules _ (within_told Vars file.vars _ (rules_told file.vars 1 [] file.rules))

  rules_of_text_told : (kind : GrammarKind) (text : List ℕ) → IsTold (text_rules patterns kind text)
  rules_of_text_told OfRules text = file_told (rule_file_of text)
  rules_of_text_told Query text = rules_told [] 1 [] (query_entries text ∷ [])

  -- ## The grammar

  whole_told : (room : ℕ) (rules : List Rule) → IsToldFault (whole_fault patterns room rules)
  whole_told room rules =
      either_told (label_fault rules 1 rules) _ (label_told rules 1 rules)
      (if_told (nat_lt room (length (first_appearances patterns.expressions_in rules))) _ _ tt tt)

  grammar_told : (kind : GrammarKind) (text : List ℕ) (room : ℕ) → IsTold (grammar_read patterns kind text room)
  unfolding grammar_read
  grammar_told kind text room =
      within_told GrammarBytes text _
      (and_then-errs IsTextFault (text_rules patterns kind text) _ (rules_of_text_told kind text)
      (λ rules. unless_told (whole_fault patterns room rules) _ (whole_told room rules)))

pub has_text_faults : HasTextFaults
has_text_faults p kind text room f e = err-of IsTextFault _ f (grammar_told p kind text room) e
