-- The fault of a pattern is that of the rule whose number it has.
use Rattle.std.proofs.Common.{◌≡◌, ℕ, ◌+◌, arith, List, [], ◌∷◌, ◌++◌, length, Bool, true, false, refl, sym, ap, ◌∙◌, subst, append_assoc, Option, Some, None, Result, Ok, Err}
use Rattle.std.specs.Prelude.{if◌then◌else◌, nat_lt, not, codes, IfErr}
use Rattle.std.specs.Option.{option_or}
use Rattle.std.specs.Str.{chars}
use Rattle.std.proofs.lemmas.List.{length-append}
use Rattle.od_pattern.specs.declared.grammar.GrammarKind.TheVariants.{RuleFile as OfRules, Query}
use Rattle.od_pattern.specs.declared.rule.Body.{Body}
use Rattle.od_pattern.specs.declared.rule.Priority.{Priority}
use Rattle.od_pattern.specs.declared.rule.Rule.{Rule}
use Rattle.od_language.specs.declared.pattern_fault.PatternKind.{PatternKind}
use Rattle.od_language.specs.Identifier.{is_identifier}
use Rattle.od_rule_text.specs.declared.grammar_fault.GrammarFault.{GrammarFault}
use Rattle.od_rule_text.specs.declared.grammar_fault.GrammarFault.TheVariants as fault
use Rattle.od_rule_text.specs.declared.grammar_fault.GrammarLimit.{GrammarLimit}
use Rattle.od_rule_text.specs.declared.grammar_fault.GrammarLimit.TheVariants.{GrammarBytes, Rules, Vars, PatternBytes}
use Rattle.od_rule_text.specs.declared.rule_file.KeyText.{KeyText}
use Rattle.od_rule_text.specs.declared.rule_file.RuleFile.{RuleFile}
use Rattle.od_rule_text.specs.declared.rule_file.YamlKind.{YamlKind}
use Rattle.od_rule_text.specs.Texts.{is_among}
use Rattle.od_rule_text.specs.RuleFiles.{rule_file_of}
use Rattle.od_rule_text.specs.Expansion.{Misfit, unknown, cycle, expanded}
use Rattle.od_rule_text.specs.Priorities.{rule_priority}
use Rattle.od_rule_text.specs.Items.{Fields, RuleType, basic, type_of, fields_with, value_of, has_rule_keys, is_rule_name}
use Rattle.od_rule_text.specs.Expressions.{first_appearances}
use Rattle.od_rule_text.specs.Grammars.{Parsed, within, limit_of, names_labels_of, label_fault, whole_fault, unless, with_body, body_of, with_text, with_priority, with_type, with_fields, rule_of, rules_of, file_rules, query_entries}
use Rattle.od_rule_text.specs.Grammars as read
use Rattle.od_rule_text.proofs.Outcomes.{if-errs, and_then-errs, one_more-errs, err-of}
use Rattle.od_syntax.specs.Texts.{IsHopTextFault}
use Rattle.od_grammars.specs.Bodies.{IsBodyFault}
use Rattle.od_grammars.specs.Grammars.{patterns, grammar_read}
use Rattle.od_grammars.specs.PatternFaults.{IsPatternOf, IsPatternAt, RuleFaultsAreMeant, QueryFaultsAreMeant}
use Rattle.od_grammars.proofs.Bodies.{bodies_are_computed}

-- a fault of a pattern says this of the rule's number, the place and the kind; another says nothing
abbrev OfPattern : (ℕ → ℕ → PatternKind → Type 0) → GrammarFault → Type 0
OfPattern P (fault.Pattern n at k) = P n at k
OfPattern P f = Unit {0}

module _ (P : ℕ → ℕ → PatternKind → Type 0) where
  abbrev Says : {X : Type 0} → Result X GrammarFault → Type 0
  Says r = IfErr r (OfPattern P)

  within_says : {X Y : Type 0} (which : GrammarLimit) (xs : List X) (r : Result Y GrammarFault) → Says r → Says (within which xs r)
  within_says which xs r h = if-errs (OfPattern P) (nat_lt (limit_of which) (length xs)) _ r tt h

  -- ## Faults of a whole grammar

  abbrev SaysFault : Option GrammarFault → Type 0
  SaysFault None = Unit {0}
  SaysFault (Some f) = OfPattern P f

  unless_says : {X : Type 0} (o : Option GrammarFault) (x : X) → SaysFault o → Says (unless o x)
  unless_says None x h = tt
  unless_says (Some f) x h = h

  either_says : (o p : Option GrammarFault) → SaysFault o → SaysFault p → SaysFault (option_or o p)
  either_says None p h k = k
  either_says (Some f) p h k = h

  if_says : (t : Bool) (o p : Option GrammarFault) → SaysFault o → SaysFault p → SaysFault (if t then o else p)
  if_says true o p h k = h
  if_says false o p h k = k

  label_says : (rules : List Rule) (n : ℕ) (left : List Rule) → SaysFault (label_fault rules n left)
  label_says rules n [] = tt
  label_says rules n (r ∷ more) = if_says (names_labels_of rules r) _ _ (label_says rules (n + 1) more) tt

  whole_says : (room : ℕ) (rules : List Rule) → SaysFault (whole_fault patterns room rules)
  whole_says room rules =
      either_says (label_fault rules 1 rules) _ (label_says rules 1 rules) (if_says (nat_lt room (length (first_appearances patterns.expressions_in rules))) _ _ tt tt)

  -- ## One rule, of the number n

  module _ (vars : List KeyText) (n : ℕ) (f : Fields)
      (says : (t : RuleType) (text : List ℕ) (at : ℕ) (k : PatternKind) → type_of f.type ≡ Some t → expanded vars f.pattern ≡ Ok text → IsBodyFault t text at k → P n at k) where
    body_says : (t : RuleType) (text : List ℕ) (p : Priority) (b : Parsed Body) → type_of f.type ≡ Some t → expanded vars f.pattern ≡ Ok text → body_of patterns t text ≡ b →
        Says (with_body n f p b)
    body_says t text p (Err (at, k)) i x e = says t text at k i x (((bodies_are_computed t text).fault at k).1 e)
    body_says t text p (Ok body) i x e = tt

    text_says : (t : RuleType) (p : Priority) (x : Result (List ℕ) Misfit) → type_of f.type ≡ Some t → expanded vars f.pattern ≡ x → Says (with_text patterns n f t p x)
    text_says t p (Err unknown) i x = tt
    text_says t p (Err (cycle name)) i x = tt
    text_says t p (Ok text) i x = within_says PatternBytes text _ (body_says t text p (body_of patterns t text) i x refl)

    priority_says : (t : RuleType) (o : Option Priority) → type_of f.type ≡ Some t → Says (with_priority patterns vars n f t o)
    priority_says t None i = tt
    priority_says t (Some p) i = text_says t p (expanded vars f.pattern) i refl

    type_says : (o : Option RuleType) → type_of f.type ≡ o → Says (with_type patterns vars n f o)
    type_says None i = tt
    type_says (Some t) i = priority_says t (rule_priority f.priority) i

    fields_say : (names : List (List ℕ)) → Says (with_fields patterns vars n names (Some f))
    fields_say names =
        if-errs (OfPattern P) (not (is_rule_name f.name)) _ _ tt
        (if-errs (OfPattern P) (is_among names f.name) _ _ tt
        (if-errs (OfPattern P) (not (is_identifier f.label)) _ _ tt (type_says (type_of f.type) refl)))

  module _ (vars : List KeyText) (n : ℕ) (item : List KeyText) (says : (at : ℕ) (k : PatternKind) → IsPatternOf vars item at k → P n at k) where
    texts_say : (names : List (List ℕ)) (a b c p d : Option (List ℕ)) → value_of (codes "type") item ≡ c → value_of (codes "pattern") item ≡ d →
        Says (with_fields patterns vars n names (fields_with a b c p d))
    texts_say names None b c p d i j = tt
    texts_say names (Some name) None c p d i j = tt
    texts_say names (Some name) (Some label) None p d i j = tt
    texts_say names (Some name) (Some label) (Some type) p None i j = tt
    texts_say names (Some name) (Some label) (Some type) p (Some pattern) i j =
        fields_say vars n (record { name = name; label = label; type = type; priority = p; pattern = pattern })
        (λ t text at k w x e. says at k (record {
          type_text = type;
          pattern = pattern;
          has_type = i;
          has_pattern = j;
          type = t;
          typed = w;
          text = text;
          expands = x;
          first_fault = e;
        })) names

    rule_says : (names : List (List ℕ)) → Says (rule_of patterns vars n names item)
    rule_says names =
        if-errs (OfPattern P) (has_rule_keys item) _ _
        (texts_say names (value_of (codes "name") item) (value_of (codes "label") item) (value_of (codes "type") item) (value_of (codes "priority") item) (value_of (codes "pattern") item) refl refl)
        tt

  -- ## All rules

  module _ (vars : List KeyText) (items : List (List KeyText)) (says : (n at : ℕ) (k : PatternKind) → IsPatternAt vars items n at k → P n at k) where
    rules_say : (before left : List (List KeyText)) (n : ℕ) (names : List (List ℕ)) → items ≡ before ++ left → n ≡ length before + 1 → Says (rules_of patterns vars n names left)
    rules_say before [] n names parts number = tt
    rules_say before (item ∷ left) n names parts number =
        let size = length-append before (item ∷ []) in
        and_then-errs (OfPattern P) (rule_of patterns vars n names item) _
        (rule_says vars n item (λ at k is. says n at k (record { before = before; item = item; behind = left; parts = parts; number = number; is = is })) names)
        (λ r. one_more-errs (OfPattern P) r _ (rules_say (before ++ item ∷ []) left (n + 1) (names ++ r.name ∷ []) (parts ∙ sym (append_assoc before (item ∷ []) left)) (omega (arith, number, size))))

-- ## Whole texts

abbrev OfFile : List ℕ → ℕ → ℕ → PatternKind → Type 0
OfFile text n at k = (file : RuleFile) × (rule_file_of text ≡ Ok file) × IsPatternAt file.vars file.rules n at k

file_says : (text : List ℕ) (x : Result RuleFile (ℕ × YamlKind)) → rule_file_of text ≡ x → Says (OfFile text) (file_rules patterns x)
file_says text (Err f) e = tt
file_says text (Ok file) e =
    within_says (OfFile text) Rules file.rules _
    (within_says (OfFile text) Vars file.vars _ (rules_say (OfFile text) file.vars file.rules (λ n at k is. (file, e, is)) [] file.rules 1 [] refl refl))

pub rule_faults_are_meant : RuleFaultsAreMeant
unfolding read.grammar_read
rule_faults_are_meant text room n at k h =
    err-of (OfPattern (OfFile text)) (grammar_read OfRules text room) (fault.Pattern n at k)
    (within_says (OfFile text) GrammarBytes text _
    (and_then-errs (OfPattern (OfFile text)) (file_rules patterns (rule_file_of text)) _ (file_says text (rule_file_of text) refl)
    (λ rules. unless_says (OfFile text) (whole_fault patterns room rules) _ (whole_says (OfFile text) room rules)))) h

abbrev OfQuery : List ℕ → ℕ → ℕ → PatternKind → Type 0
OfQuery text n at k = IsPatternAt [] (query_entries text ∷ []) n at k

query_faults_at : (text : List ℕ) (room n at : ℕ) (k : PatternKind) → grammar_read Query text room ≡ Err (fault.Pattern n at k) → OfQuery text n at k
unfolding read.grammar_read
query_faults_at text room n at k h =
    err-of (OfPattern (OfQuery text)) (grammar_read Query text room) (fault.Pattern n at k)
    (within_says (OfQuery text) GrammarBytes text _
    (and_then-errs (OfPattern (OfQuery text)) (rules_of patterns [] 1 [] (query_entries text ∷ [])) _
    (rules_say (OfQuery text) [] (query_entries text ∷ []) (λ n at k is. is) [] (query_entries text ∷ []) 1 [] refl refl)
    (λ rules. unless_says (OfQuery text) (whole_fault patterns room rules) _ (whole_says (OfQuery text) room rules)))) h

-- ## Of a query

abbrev some_item : List KeyText → List (List KeyText)
some_item i = i ∷ []

-- the one item of a list
one_item : (i j : List KeyText) (before behind : List (List KeyText)) → some_item i ≡ before ++ j ∷ behind → (before ≡ []) × (i ≡ j)
one_item i j [] behind e = (refl, cc)
one_item i j (b ∷ []) behind e = absurd (cc)
one_item i j (b ∷ c ∷ before) behind e = absurd (cc)

same_text : (a b : List ℕ) (o : Option (List ℕ)) → o ≡ Some a → o ≡ Some b → a ≡ b
same_text a b o e f = cc

same_type : (s t : RuleType) (o : Option RuleType) → o ≡ Some s → o ≡ Some t → s ≡ t
same_type s t o e f = cc

-- a query's pattern is its text, and of the type basic
query_pattern : (text : List ℕ) (at : ℕ) (k : PatternKind) → IsPatternOf [] (query_entries text) at k → (whole : List ℕ) × (expanded [] text ≡ Ok whole) × IsHopTextFault (chars whole) at k
query_pattern text at k is =
    let pattern = same_text is.pattern text (value_of (codes "pattern") (query_entries text)) is.has_pattern refl in
    let type_text = same_text is.type_text (codes "basic") (value_of (codes "type") (query_entries text)) is.has_type refl in
    let type = same_type is.type basic (type_of (codes "basic")) (sym (ap type_of type_text) ∙ is.typed) refl in (
      is.text,
      sym (ap (expanded []) pattern) ∙ is.expands,
      subst (λ (t : RuleType). IsBodyFault t is.text at k) type is.first_fault,
    )

pub query_faults_are_meant : QueryFaultsAreMeant
query_faults_are_meant text room n at k h =
    let is = query_faults_at text room n at k h in
    let one = one_item (query_entries text) is.item is.before is.behind is.parts in
    let q = query_pattern text at k (subst (λ (z : List KeyText). IsPatternOf [] z at k) (sym one.1) is.is) in
    (is.number ∙ ap (λ z. length z + 1) one.0, q.0, q.1, q.2)
