-- What the rules of a grammar have, by the tests that they passed.
use Rattle.std.proofs.Common.{◌≡◌, ℕ, ◌+◌, ◌≤◌, List, [], ◌∷◌, ◌++◌, length, map, arith, true, false, refl, sym, ap, ◌∙◌, subst, Option, Some, None, Result, Ok, Err}
use Rattle.std.specs.Prelude.{nat_lt, not, codes}
use Rattle.std.specs.List.{AllZip}
use Rattle.std.proofs.lemmas.Bool.{ltb-false, le-ltb}
use Rattle.std.proofs.lemmas.List.{length-map, map-append}
use Rattle.od_text.specs.Lists.{Each, points_after}
use Rattle.od_pattern.specs.declared.grammar.GrammarKind.{GrammarKind}
use Rattle.od_pattern.specs.declared.grammar.GrammarKind.TheVariants.{RuleFile as OfRules, Query}
use Rattle.od_pattern.specs.declared.grammar.Grammar.{Grammar}
use Rattle.od_pattern.specs.declared.rule.Rule.{Rule}
use Rattle.od_pattern.specs.declared.rule.Body.{Body}
use Rattle.od_pattern.specs.declared.rule.Priority.{Priority}
use Rattle.od_language.specs.Identifier.{is_identifier}
use Rattle.od_rule_text.specs.declared.grammar_fault.GrammarLimit.TheVariants.{GrammarBytes, Rules, Vars, PatternBytes}
use Rattle.od_rule_text.specs.declared.limits.TheConstants.{PATTERN_BYTES}
use Rattle.od_rule_text.specs.declared.rule_file.KeyText.{KeyText}
use Rattle.od_rule_text.specs.declared.rule_file.RuleFile.{RuleFile}
use Rattle.od_rule_text.specs.declared.rule_file.YamlKind.{YamlKind}
use Rattle.od_rule_text.specs.Texts.{is_among}
use Rattle.od_rule_text.specs.RuleFiles.{rule_file_of}
use Rattle.od_rule_text.specs.Expansion.{Misfit, unknown, cycle, expanded}
use Rattle.od_rule_text.specs.Priorities.{rule_priority}
use Rattle.od_rule_text.specs.Items.{Fields, RuleType, type_of, fields_with, value_of, has_rule_keys, is_rule_name}
use Rattle.od_rule_text.specs.Expressions.{Appearance, first_appearances}
use Rattle.od_rule_text.specs.Grammars.{Parsed, Patterns, limit_of, names_labels_of, label_fault, room_fault, whole_fault, with_body, body_of, with_text, with_priority, with_type, with_fields, rule_of, rules_of, file_rules, text_rules, query_entries, grammar_read}
use Rattle.od_rule_text.specs.Laws.{IsBodyOf, IsRuleOf, HasNewName, IsOfText}
use Rattle.od_rule_text.proofs.Outcomes.{same_ok, not_false, behind_refusal, behind_test, within-ok, and_then-ok, one_more-ok, unless-ok, no_fault, no_fault_behind, neither_fault}

-- what a rule shows of the tests that it passed, behind the rules of these names
record Passed (names : List (List ℕ)) (rule : Rule) : Type 0 where
  new : is_among names rule.name ≡ false
  named : is_rule_name rule.name ≡ true
  labelled : is_identifier rule.label ≡ true

module _ (patterns : Patterns) where
  -- ## One rule

  -- a rule is what some fields say
  record IsOfFields (vars : List KeyText) (f : Fields) (rule : Rule) : Type 0 where
    name : rule.name ≡ f.name
    label : rule.label ≡ f.label
    priority : rule_priority f.priority ≡ Some rule.priority
    body : IsBodyOf patterns vars f.type f.pattern rule.body

  body_tested : (vars : List KeyText) (n : ℕ) (f : Fields) (t : RuleType) (p : Priority) (text : List ℕ) (b : Parsed Body) (r : Rule) → rule_priority f.priority ≡ Some p →
      type_of f.type ≡ Some t → expanded vars f.pattern ≡ Ok text → length text ≤ PATTERN_BYTES → body_of patterns t text ≡ b → with_body n f p b ≡ Ok r → IsOfFields vars f r
  body_tested vars n f t p text (Err e) r wp wt wx small wb h = absurd (cc)
  body_tested vars n f t p text (Ok body) r wp wt wx small wb h =
      subst (IsOfFields vars f) (same_ok (with_body n f p (Ok body)) _ r refl h) (record {
        name = refl;
        label = refl;
        priority = wp;
        body = record { type = t; text = text; typed = wt; expands = wx; small = small; reads = wb };
      })

  text_tested : (vars : List KeyText) (n : ℕ) (f : Fields) (t : RuleType) (p : Priority) (x : Result (List ℕ) Misfit) (r : Rule) → rule_priority f.priority ≡ Some p →
      type_of f.type ≡ Some t → expanded vars f.pattern ≡ x → with_text patterns n f t p x ≡ Ok r → IsOfFields vars f r
  text_tested vars n f t p (Err unknown) r wp wt wx h = absurd (cc)
  text_tested vars n f t p (Err (cycle name)) r wp wt wx h = absurd (cc)
  text_tested vars n f t p (Ok text) r wp wt wx h =
      let fits = within-ok PatternBytes text _ r h in
      body_tested vars n f t p text (body_of patterns t text) r wp wt wx fits.0 refl fits.1

  priority_tested : (vars : List KeyText) (n : ℕ) (f : Fields) (t : RuleType) (o : Option Priority) (r : Rule) → rule_priority f.priority ≡ o →
      type_of f.type ≡ Some t → with_priority patterns vars n f t o ≡ Ok r → IsOfFields vars f r
  priority_tested vars n f t None r wp wt h = absurd (cc)
  priority_tested vars n f t (Some p) r wp wt h = text_tested vars n f t p (expanded vars f.pattern) r wp wt refl h

  type_tested : (vars : List KeyText) (n : ℕ) (f : Fields) (o : Option RuleType) (r : Rule) → type_of f.type ≡ o → with_type patterns vars n f o ≡ Ok r → IsOfFields vars f r
  type_tested vars n f None r wt h = absurd (cc)
  type_tested vars n f (Some t) r wt h = priority_tested vars n f t (rule_priority f.priority) r refl wt h

  -- the tests in their order
  tested : (vars : List KeyText) (n : ℕ) (names : List (List ℕ)) (f : Fields) (r : Rule) → with_fields patterns vars n names (Some f) ≡ Ok r →
      IsOfFields vars f r × Passed names r
  tested vars n names f r h =
      let named = behind_refusal (not (is_rule_name f.name)) _ _ r h in
      let new = behind_refusal (is_among names f.name) _ _ r named.1 in
      let labelled = behind_refusal (not (is_identifier f.label)) _ _ r new.1 in
      let has = type_tested vars n f (type_of f.type) r refl labelled.1 in (
        has,
        record {
          new = ap (is_among names) has.name ∙ new.0;
          named = ap is_rule_name has.name ∙ not_false _ named.0;
          labelled = ap is_identifier has.label ∙ not_false _ labelled.0;
        },
      )

  -- the texts that an item must have
  record HasTexts (vars : List KeyText) (name label type priority pattern : Option (List ℕ)) (names : List (List ℕ)) (rule : Rule) : Type 0 where
    fields : Fields
    has_name : name ≡ Some fields.name
    has_label : label ≡ Some fields.label
    has_type : type ≡ Some fields.type
    has_priority : priority ≡ fields.priority
    has_pattern : pattern ≡ Some fields.pattern
    is : IsOfFields vars fields rule
    passed : Passed names rule

  item_tested : (vars : List KeyText) (n : ℕ) (names : List (List ℕ)) (a b c p d : Option (List ℕ)) (r : Rule) →
      with_fields patterns vars n names (fields_with a b c p d) ≡ Ok r → HasTexts vars a b c p d names r
  item_tested vars n names None b c p d r h = absurd (cc)
  item_tested vars n names (Some name) None c p d r h = absurd (cc)
  item_tested vars n names (Some name) (Some label) None p d r h = absurd (cc)
  item_tested vars n names (Some name) (Some label) (Some type) p None r h = absurd (cc)
  item_tested vars n names (Some name) (Some label) (Some type) p (Some pattern) r h =
      let f : Fields = record { name = name; label = label; type = type; priority = p; pattern = pattern } in
      let t = tested vars n names f r h in
      record { fields = f; has_name = refl; has_label = refl; has_type = refl; has_priority = refl; has_pattern = refl; is = t.0; passed = t.1 }

  rule_tested : (vars : List KeyText) (n : ℕ) (names : List (List ℕ)) (item : List KeyText) (r : Rule) → rule_of patterns vars n names item ≡ Ok r →
      IsRuleOf patterns vars item r × Passed names r
  rule_tested vars n names item r h =
      let i = item_tested vars n names (value_of (codes "name") item) (value_of (codes "label") item) (value_of (codes "type") item) (value_of (codes "priority") item) (value_of (codes "pattern") item) r
      (behind_test (has_rule_keys item) _ _ r h).1 in (
        record {
          name = i.has_name ∙ ap (λ x. Some x) (sym i.is.name);
          label = i.has_label ∙ ap (λ x. Some x) (sym i.is.label);
          priority = ap rule_priority i.has_priority ∙ i.is.priority;
          type = i.fields.type;
          pattern = i.fields.pattern;
          has_type = i.has_type;
          has_pattern = i.has_pattern;
          body = i.is.body;
        },
        i.passed,
      )

  -- ## All rules

  rules_in_order : (vars : List KeyText) (n : ℕ) (names : List (List ℕ)) (items : List (List KeyText)) (rules : List Rule) →
      rules_of patterns vars n names items ≡ Ok rules → AllZip (IsRuleOf patterns vars) items rules
  rules_in_order vars n names [] rules h = let none : [] ≡ rules = cc in subst (AllZip (IsRuleOf patterns vars) []) none tt
  rules_in_order vars n names (item ∷ items) rules h =
      let a = and_then-ok (rule_of patterns vars n names item) _ rules h in
      let o = one_more-ok a.0 _ rules a.2 in
      subst (AllZip (IsRuleOf patterns vars) (item ∷ items)) (sym o.2) ((rule_tested vars n names item a.0 a.1).0, rules_in_order vars (n + 1) (names ++ a.0.name ∷ []) items o.0 o.1)

  -- what the rules behind others have
  record ArePassed (before rules : List Rule) : Type 0 where
    distinct : Each (λ p. HasNewName p.0 p.1) (points_after before rules)
    named : Each (λ r. is_rule_name r.name ≡ true) rules
    labelled : Each (λ r. is_identifier r.label ≡ true) rules

  rules_passed : (vars : List KeyText) (n : ℕ) (before : List Rule) (items : List (List KeyText)) (rules : List Rule) →
      rules_of patterns vars n (map (λ r. r.name) before) items ≡ Ok rules → ArePassed before rules
  rules_passed vars n before [] rules h =
      let none : [] ≡ rules = cc in subst (ArePassed before) none (record { distinct = tt; named = tt; labelled = tt })
  rules_passed vars n before (item ∷ items) rules h =
      let a = and_then-ok (rule_of patterns vars n (map (λ r. r.name) before) item) _ rules h in
      let o = one_more-ok a.0 _ rules a.2 in
      let passed = (rule_tested vars n (map (λ r. r.name) before) item a.0 a.1).1 in
      let more = rules_passed vars (n + 1) (before ++ a.0 ∷ []) items o.0
      (subst (λ names. rules_of patterns vars (n + 1) names items ≡ Ok o.0) (sym (map-append (λ (r : Rule). r.name) before (a.0 ∷ []))) o.1) in
      subst (ArePassed before) (sym o.2) (record {
        distinct = (passed.new, more.distinct);
        named = (passed.named, more.named);
        labelled = (passed.labelled, more.labelled);
      })

  -- ## The grammar

  file_passed : (x : Result RuleFile (ℕ × YamlKind)) (rules : List Rule) → file_rules patterns x ≡ Ok rules →
      (file : RuleFile) × (x ≡ Ok file) × (rules_of patterns file.vars 1 [] file.rules ≡ Ok rules)
  file_passed (Err f) rules h = absurd (cc)
  file_passed (Ok file) rules h = (file, refl, (within-ok Vars file.vars _ rules (within-ok Rules file.rules _ rules h).1).1)

  text_passed : (kind : GrammarKind) (text : List ℕ) (rules : List Rule) → text_rules patterns kind text ≡ Ok rules → ArePassed [] rules
  text_passed OfRules text rules h = let f = file_passed (rule_file_of text) rules h in rules_passed f.0.vars 1 [] f.0.rules rules f.2
  text_passed Query text rules h = rules_passed [] 1 [] (query_entries text ∷ []) rules h

  -- a grammar that is read has the rules of its text, and no fault as a whole
  record Whole (kind : GrammarKind) (text : List ℕ) (room : ℕ) (grammar : Grammar) : Type 0 where
    rules : text_rules patterns kind text ≡ Ok grammar.rules
    none : whole_fault patterns room grammar.rules ≡ None
    is : grammar ≡ record { kind = kind; text = text; rules = grammar.rules }

  whole : (kind : GrammarKind) (text : List ℕ) (room : ℕ) (grammar : Grammar) → grammar_read patterns kind text room ≡ Ok grammar → Whole kind text room grammar
  unfolding grammar_read
  whole kind text room grammar h =
      let a = and_then-ok (text_rules patterns kind text) _ grammar (within-ok GrammarBytes text _ grammar h).1 in
      let u = unless-ok (whole_fault patterns room a.0) _ grammar a.2 in
      let same : a.0 ≡ grammar.rules = ap (λ (g : Grammar). g.rules) (sym u.1) in
      record {
        rules = a.1 ∙ ap (λ rules. Ok rules) same;
        none = subst (λ rules. whole_fault patterns room rules ≡ None) same u.0;
        is = u.1 ∙ ap (λ (rules : List Rule). record { kind = kind; text = text; rules = rules }) same;
      }

  pub keeps_order : (text : List ℕ) (room : ℕ) (grammar : Grammar) → grammar_read patterns OfRules text room ≡ Ok grammar →
      (file : RuleFile) × (rule_file_of text ≡ Ok file) × AllZip (IsRuleOf patterns file.vars) file.rules grammar.rules
  keeps_order text room grammar h =
      let f = file_passed (rule_file_of text) grammar.rules (whole OfRules text room grammar h).rules in
      (f.0, f.1, rules_in_order f.0.vars 1 [] f.0.rules grammar.rules f.2)

  -- ## What a grammar has as a whole

  labels_known : (rules : List Rule) (n : ℕ) (left : List Rule) → label_fault rules n left ≡ None → Each (λ r. names_labels_of rules r ≡ true) left
  labels_known rules n [] h = tt
  labels_known rules n (r ∷ more) h =
      let k = no_fault_behind (names_labels_of rules r) (label_fault rules (n + 1) more) _ h in
      (k.0, labels_known rules (n + 1) more k.1)

  within_room : (room : ℕ) (rules : List Rule) → room_fault patterns room rules ≡ None → length (first_appearances patterns.expressions_in rules) ≤ room
  within_room room rules h = ltb-false room _ (no_fault (nat_lt room (length (first_appearances patterns.expressions_in rules))) _ h)

  pub reads_grammars : (kind : GrammarKind) (text : List ℕ) (room : ℕ) (grammar : Grammar) → grammar_read patterns kind text room ≡ Ok grammar →
      IsOfText patterns kind text room grammar
  reads_grammars kind text room grammar h =
      let w = whole kind text room grammar h in
      let passed = text_passed kind text grammar.rules w.rules in
      let n = neither_fault (label_fault grammar.rules 1 grammar.rules) _ w.none in
      record {
        same_kind = ap (λ (g : Grammar). g.kind) w.is;
        same_text = ap (λ (g : Grammar). g.text) w.is;
        distinct = passed.distinct;
        named = passed.named;
        labelled = passed.labelled;
        known = labels_known grammar.rules 1 grammar.rules n.0;
        fits = rw (length-map (first_appearances patterns.expressions_in grammar.rules) (λ (a : Appearance). a.expression)) (within_room room grammar.rules n.1);
      }

  -- with more room there is no fault either
  room_kept : (room more : ℕ) (rules : List Rule) → room ≤ more → whole_fault patterns room rules ≡ None → whole_fault patterns more rules ≡ None
  room_kept room more rules le h =
      let n = neither_fault (label_fault rules 1 rules) _ h in
      let fits : length (first_appearances patterns.expressions_in rules) ≤ more = omega (arith, le, within_room room rules n.1) in
      rw (n.0, le-ltb _ _ fits) refl

  pub keeps_with_more_room : (kind : GrammarKind) (text : List ℕ) (room more : ℕ) (grammar : Grammar) → room ≤ more →
      grammar_read patterns kind text room ≡ Ok grammar → grammar_read patterns kind text more ≡ Ok grammar
  unfolding grammar_read
  keeps_with_more_room kind text room more grammar le h =
      let w = whole kind text room grammar h in
      let small = (behind_refusal (nat_lt (limit_of GrammarBytes) (length text)) _ _ grammar h).0 in
      rw (small, w.rules, room_kept room more grammar.rules le w.none) (ap (λ g. Ok g) (sym w.is))
