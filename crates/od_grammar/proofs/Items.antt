-- The rules of items, one after another.
use Rattle.std.proofs.Common.{◌≡◌, ℕ, ◌+◌, ◌<◌, List, [], ◌∷◌, ◌++◌, length, drop, get_or, position, Option, Some, None, Result, Ok, Err, false, refl, sym, ap, ◌∙◌, subst, bytes_eq, append_assoc}
use Rattle.std.specs.Prelude.{not}
use Rattle.std.proofs.lemmas.List.{drop_more}
use Rattle.od_names.proofs.Named.{is_some-position, none-of}
use Rattle.od_pattern.specs.declared.rule.Body.{Body}
use Rattle.od_pattern.specs.declared.rule.Priority.{Priority}
use Rattle.od_pattern.specs.declared.rule.Rule.{Rule}
use Rattle.od_language.specs.Identifier.{is_identifier}
use Rattle.od_rule_text.specs.declared.grammar_fault.GrammarFault.{GrammarFault}
use Rattle.od_rule_text.specs.declared.grammar_fault.GrammarFault.TheVariants.{NoMemory}
use Rattle.od_rule_text.specs.declared.grammar_fault.GrammarLimit.TheVariants.{PatternBytes}
use Rattle.od_rule_text.specs.declared.rule_file.KeyText.{KeyText}
use Rattle.od_rule_text.specs.Expansion.{Misfit, unknown, cycle, expanded}
use Rattle.od_rule_text.specs.Grammars.{Answer, Parsed, and_then, one_more, body_of, with_body, with_text, with_priority, with_type, with_fields, rule_of, rules_of}
use Rattle.od_rule_text.specs.Items.{Fields, RuleType, type_of, fields_of, has_rule_keys, is_rule_name}
use Rattle.od_rule_text.specs.Priorities.{rule_priority}
use Rattle.od_rule_text.specs.Texts.{is_among}
use Rattle.od_item.specs.Faults.{IsRuleFault}
use Rattle.od_rule_text.proofs.Outcomes.{behind_refusal, behind_test, within-ok}
use Rattle.od_grammars.specs.Grammars.{patterns}
use Rattle.od_grammar.specs.Telling.{Tells}

-- ## A rule has a new name

module _ (vars : List KeyText) (n : ℕ) (f : Fields) where
  body_named : (p : Priority) (b : Parsed Body) (r : Rule) → with_body n f p b ≡ Ok r → f.name ≡ r.name
  body_named p (Err e) r h = absurd (cc)
  body_named p (Ok body) r h =
      let made : Rule = record { name = f.name; label = f.label; priority = p; body = body } in
      let same : made ≡ r = cc in
      ap (λ (z : Rule). z.name) same

  text_named : (t : RuleType) (p : Priority) (x : Result (List ℕ) Misfit) (r : Rule) → with_text patterns n f t p x ≡ Ok r → f.name ≡ r.name
  text_named t p (Err unknown) r h = absurd (cc)
  text_named t p (Err (cycle name)) r h = absurd (cc)
  text_named t p (Ok text) r h = body_named p (body_of patterns t text) r (within-ok PatternBytes text _ r h).1

  priority_named : (t : RuleType) (o : Option Priority) (r : Rule) → with_priority patterns vars n f t o ≡ Ok r → f.name ≡ r.name
  priority_named t None r h = absurd (cc)
  priority_named t (Some p) r h = text_named t p (expanded vars f.pattern) r h

  type_named : (o : Option RuleType) (r : Rule) → with_type patterns vars n f o ≡ Ok r → f.name ≡ r.name
  type_named None r h = absurd (cc)
  type_named (Some t) r h = priority_named t (rule_priority f.priority) r h

fields_new : (vars : List KeyText) (n : ℕ) (names : List (List ℕ)) (o : Option Fields) (r : Rule) → with_fields patterns vars n names o ≡ Ok r → is_among names r.name ≡ false
fields_new vars n names None r h = absurd (cc)
fields_new vars n names (Some f) r h =
    let named = behind_refusal (not (is_rule_name f.name)) _ _ r h in
    let new = behind_refusal (is_among names f.name) _ _ r named.1 in
    let labelled = behind_refusal (not (is_identifier f.label)) _ _ r new.1 in
    subst (λ (z : List ℕ). is_among names z ≡ false) (type_named vars n f (type_of f.type) r labelled.1) new.0

rule_new : (vars : List KeyText) (n : ℕ) (names : List (List ℕ)) (item : List KeyText) (r : Rule) → rule_of patterns vars n names item ≡ Ok r → is_among names r.name ≡ false
rule_new vars n names item r h = fields_new vars n names (fields_of item) r (behind_test (has_rule_keys item) _ _ r h).1

-- so it has no place yet
pub name_new : (vars : List KeyText) (n : ℕ) (names : List (List ℕ)) (item : List KeyText) (r : Rule) → rule_of patterns vars n names item ≡ Ok r
    → position (λ other. bytes_eq other r.name) names ≡ None
name_new vars n names item r h =
    none-of (position (λ other. bytes_eq other r.name) names)
    (is_some-position (λ other. bytes_eq other r.name) names ∙ rule_new vars n names item r h)

-- the fault of an item
pub rule_told : (vars : List KeyText) (n : ℕ) (names : List (List ℕ)) (item : List KeyText) (f : GrammarFault) → IsRuleFault vars n names item f
    → Tells (λ g. rule_of patterns vars n names item ≡ Err g) f
rule_told vars n names item NoMemory h = tt
rule_told vars n names item f h = h

-- ## Rules in a row

-- rules in front of others, where these are there
abbrev pub after : List Rule → Answer (List Rule) → Answer (List Rule)
after rules (Ok more) = Ok (rules ++ more)
after rules (Err f) = Err f

after_one : (rules : List Rule) (rule : Rule) (a : Answer (List Rule)) → after rules (one_more rule a) ≡ after (rules ++ rule ∷ []) a
after_one rules rule (Ok more) = ap (λ (z : List Rule). Ok z) (sym (append_assoc rules (rule ∷ []) more))
after_one rules rule (Err f) = refl

pub after_none : (a : Answer (List Rule)) → a ≡ after [] a
after_none (Ok rules) = refl
after_none (Err f) = refl

module _ (vars own : List KeyText) (same : own ≡ vars) (items : List (List KeyText)) (i n : ℕ) (item read : List KeyText) (got : read ≡ item) (rules : List Rule) (names : List (List ℕ))
    (lt : i < length items) (e : item ≡ get_or items i item) (number : n ≡ i)
    (all : rules_of patterns vars 1 [] items ≡ after rules (rules_of patterns vars (i + 1) names (drop i items))) where
  -- the rules behind one
  abbrev behind : Rule → Answer (List Rule)
  behind rule = one_more rule (rules_of patterns vars (i + 1 + 1) (names ++ rule.name ∷ []) (drop (i + 1) items))

  here : (a : Answer Rule) → rule_of patterns own (n + 1) names read ≡ a → rules_of patterns vars 1 [] items ≡ after rules (and_then a behind)
  here a is =
      all ∙ ap (λ (z : List (List KeyText)). after rules (rules_of patterns vars (i + 1) names z)) (drop_more items i item lt ∙ ap (λ (z : List KeyText). z ∷ drop (i + 1) items) (sym e))
      ∙ ap (λ (k : ℕ). after rules (and_then (rule_of patterns vars (k + 1) names item) behind)) (sym number)
      ∙ ap (λ (z : List KeyText). after rules (and_then (rule_of patterns z (n + 1) names item) behind)) (sym same)
      ∙ ap (λ (z : List KeyText). after rules (and_then (rule_of patterns own (n + 1) names z) behind)) (sym got)
      ∙ ap (λ (z : Answer Rule). after rules (and_then z behind)) is

  pub items_next : (rule : Rule) (rules_after : List Rule) (names_after : List (List ℕ)) → rule_of patterns own (n + 1) names read ≡ Ok rule
      → rules_after ≡ rules ++ rule ∷ [] → names_after ≡ names ++ rule.name ∷ []
      → rules_of patterns vars 1 [] items ≡ after rules_after (rules_of patterns vars (i + 1 + 1) names_after (drop (i + 1) items))
  items_next rule rules_after names_after is more new =
      here (Ok rule) is ∙ after_one rules rule (rules_of patterns vars (i + 1 + 1) (names ++ rule.name ∷ []) (drop (i + 1) items))
      ∙ ap (λ (z : List Rule). after z (rules_of patterns vars (i + 1 + 1) (names ++ rule.name ∷ []) (drop (i + 1) items))) (sym more)
      ∙ ap (λ (z : List (List ℕ)). after rules_after (rules_of patterns vars (i + 1 + 1) z (drop (i + 1) items))) (sym new)
