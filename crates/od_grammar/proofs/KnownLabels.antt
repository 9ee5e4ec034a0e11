-- Labels that are known, and the first rule that names another one.
use Rattle.std.proofs.Common.{◌≡◌, ℕ, ◌+◌, ◌<◌, List, [], ◌∷◌, length, map, drop, get_or, Some, Bool, true, false, refl, sym, ap, ◌∙◌, subst, bytes_eq}
use Rattle.std.specs.Prelude.{◌||◌, ◌&&◌, if◌then◌else◌}
use Rattle.std.specs.List.{list_all}
use Rattle.std.proofs.lemmas.List.{drop_more}
use Rattle.od_pattern.specs.declared.rule.Rule.{Rule}
use Rattle.od_rule_text.specs.Grammars.{label_fault, names_labels_of}
use Rattle.od_rule_text.specs.Labels.{body_labels}
use Rattle.od_rule_text.specs.Texts.{is_among}
use Rattle.od_grammar.specs.Known.{AddsLabel, AreLabels, unknown_label}
use Rattle.od_grammar.proofs.Among.{or_false, or_true, same_text}

-- ## The labels of rules

-- a label that is there
pub label_there : (names : List (List ℕ)) (label : List ℕ) → is_among names label ≡ true → AddsLabel label names names
label_there names label there name = by (bytes_eq label name) refl
  where
    by : (b : Bool) → bytes_eq label name ≡ b → is_among names name ≡ (is_among names name || b)
    by true e =
        let is : is_among names name ≡ true = subst (λ (l : List ℕ). is_among names l ≡ true) (same_text label name e) there in
        is ∙ sym (or_true (is_among names name))
    by false e = sym (or_false (is_among names name))

abbrev label_of : Rule → List ℕ
label_of r = r.label

-- ## The first rule that names an unknown label

all_alike : {A : Type 0} (p q : A → Bool) → ((x : A) → p x ≡ q x) → (xs : List A) → list_all p xs ≡ list_all q xs
all_alike p q h [] = refl
all_alike p q h (x ∷ xs) = ap (λ b. b && list_all p xs) (h x) ∙ ap (λ b. q x && b) (all_alike p q h xs)

module _ (labels : List (List ℕ)) (rules : List Rule) (are : AreLabels labels rules) where
  names : (r : Rule) (b : Bool) → b ≡ list_all (is_among labels) (body_labels r.body) → names_labels_of rules r ≡ b
  names r b is = sym (is ∙ all_alike (is_among labels) (is_among (map label_of rules)) are (body_labels r.body))

  fault_step : (i : ℕ) (r : Rule) (b : Bool) → i < length rules → r ≡ get_or rules i r → b ≡ list_all (is_among labels) (body_labels r.body)
      → label_fault rules (i + 1) (drop i rules) ≡ (if b then label_fault rules (i + 1 + 1) (drop (i + 1) rules) else Some (unknown_label (i + 1)))
  fault_step i r b h e is =
      ap (label_fault rules (i + 1)) (drop_more rules i r h ∙ ap (λ (z : Rule). z ∷ drop (i + 1) rules) (sym e))
      ∙ ap (λ t. if t then label_fault rules (i + 1 + 1) (drop (i + 1) rules) else Some (unknown_label (i + 1))) (names r b is)

  pub fault_later : (i : ℕ) (r : Rule) (b : Bool) → i < length rules → r ≡ get_or rules i r → label_fault rules 1 rules ≡ label_fault rules (i + 1) (drop i rules)
      → b ≡ list_all (is_among labels) (body_labels r.body) → b ≡ true → label_fault rules 1 rules ≡ label_fault rules (i + 1 + 1) (drop (i + 1) rules)
  fault_later i r b h e all is holds =
      all ∙ fault_step i r b h e is ∙ ap (λ t. if t then label_fault rules (i + 1 + 1) (drop (i + 1) rules) else Some (unknown_label (i + 1))) holds

  pub fault_here : (i n : ℕ) (r : Rule) (b : Bool) → i < length rules → r ≡ get_or rules i r → label_fault rules 1 rules ≡ label_fault rules (i + 1) (drop i rules)
      → b ≡ list_all (is_among labels) (body_labels r.body) → b ≡ false → n ≡ i → label_fault rules 1 rules ≡ Some (unknown_label (n + 1))
  fault_here i n r b h e all is fails number =
      all ∙ fault_step i r b h e is ∙ ap (λ t. if t then label_fault rules (i + 1 + 1) (drop (i + 1) rules) else Some (unknown_label (i + 1))) fails
      ∙ ap (λ k. Some (unknown_label (k + 1))) (sym number)
