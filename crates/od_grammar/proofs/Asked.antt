-- The runners are those of all expressions that the rules ask.
use Rattle.std.proofs.Common.{◌≡◌, ℕ, ◌+◌, List, [], ◌∷◌, ◌++◌, map, Bool, true, false, refl, sym, subst, append_assoc, bytes_eq}
use Rattle.std.specs.Prelude.{◌||◌, Contains, if◌then◌else◌}
use Rattle.std.proofs.lemmas.List.Elements.{Contains-append_left, Contains-append_right, Contains-push}
use Rattle.od_text.specs.Lists.{Each}
use Rattle.od_text.proofs.Lists.{Each-left, Each-right, Each-from_map, Each-weaker}
use Rattle.od_pattern.specs.declared.rule.Rule.{Rule}
use Rattle.od_asked.specs.Asked.{asked_rule}
use Rattle.od_asked.specs.Expressions.{expressions_of as asked_expressions}
use Rattle.od_constraint.specs.Runners.{patterns_of, HaveAll}
use Rattle.od_grammars.proofs.SameExpressions.{expressions_are_asked}
use Rattle.od_rule_text.specs.Expressions.{Appearance, appearances_in, appearances, first_of_each, expressions_of, body_expressions}
use Rattle.od_rule_text.specs.Texts.{is_among}
use Rattle.od_grammar.proofs.Among.{same_text}

-- one of some texts is contained in them
contained : (texts : List (List ℕ)) (x : List ℕ) → is_among texts x ≡ true → Contains texts x
contained [] x h = absurd (cc)
contained (t ∷ texts) x h = by (bytes_eq t x) refl h (contained texts x)
  where
    by : (b : Bool) → bytes_eq t x ≡ b → (b || is_among texts x) ≡ true → (is_among texts x ≡ true → Contains texts x) → Contains (t ∷ texts) x
    by true e h more =
        subst (λ (z : List ℕ). Contains (z ∷ texts) x) (sym (same_text t x e)) (Contains-append_left (x ∷ []) texts x (Contains-push [] x))
    by false e h more = Contains-append_right (t ∷ []) texts x (more h)

abbrev expression : Appearance → List ℕ
expression a = a.expression

-- each expression is one that was seen or one that is found
all_found : (seen : List (List ℕ)) (xs : List Appearance) → Each (λ a. Contains (seen ++ map expression (first_of_each seen xs)) a.expression) xs
all_found seen [] = tt
all_found seen (a ∷ xs) = by (is_among seen a.expression) refl (all_found seen xs) (all_found (seen ++ a.expression ∷ []) xs)
  where
    by : (b : Bool) → is_among seen a.expression ≡ b → Each (λ x. Contains (seen ++ map expression (first_of_each seen xs)) x.expression) xs
        → Each (λ x. Contains ((seen ++ a.expression ∷ []) ++ map expression (first_of_each (seen ++ a.expression ∷ []) xs)) x.expression) xs
        → Each (λ x. Contains (seen ++ map expression (if b then first_of_each seen xs else a ∷ first_of_each (seen ++ a.expression ∷ []) xs)) x.expression) (a ∷ xs)
    by true e h k = (Contains-append_left seen (map expression (first_of_each seen xs)) a.expression (contained seen a.expression e), h)
    by false e h k =
        subst (λ (z : List (List ℕ)). Each (λ x. Contains z x.expression) (a ∷ xs))
        (append_assoc seen (a.expression ∷ []) (map expression (first_of_each (seen ++ a.expression ∷ []) xs)))
        (Contains-append_left (seen ++ a.expression ∷ []) (map expression (first_of_each (seen ++ a.expression ∷ []) xs)) a.expression (Contains-push seen a.expression), k)

-- rule by rule
rules_found : (found : List (List ℕ)) (n : ℕ) (rules : List Rule) → Each (λ a. Contains found a.expression) (appearances body_expressions n rules)
    → Each (λ r. Each (Contains found) (body_expressions r.body)) rules
rules_found found n [] h = tt
rules_found found n (r ∷ rules) h = (
  Each-from_map (λ (a : Appearance). Contains found a.expression) (λ (x : List ℕ). record { rule = n; expression = x }) (body_expressions r.body)
      (Each-left (λ (a : Appearance). Contains found a.expression) (appearances_in n (body_expressions r.body)) (appearances body_expressions (n + 1) rules) h),
  rules_found found (n + 1) rules
      (Each-right (λ (a : Appearance). Contains found a.expression) (appearances_in n (body_expressions r.body)) (appearances body_expressions (n + 1) rules) h),
)

pub have_all : {R : Type 0} (runners : List (List ℕ × R)) (rules built : List Rule) → patterns_of runners ≡ expressions_of body_expressions rules → built ≡ rules
    → Each (λ r. HaveAll runners (asked_expressions (asked_rule r))) built
have_all runners rules built are same =
    subst (Each (λ (r : Rule). HaveAll runners (asked_expressions (asked_rule r)))) (sym same)
    (Each-weaker (λ (r : Rule). Each (Contains (patterns_of runners)) (body_expressions r.body)) (λ (r : Rule). HaveAll runners (asked_expressions (asked_rule r)))
    (λ r h. subst (Each (Contains (patterns_of runners))) (expressions_are_asked r.body) h) rules
    (subst (λ (z : List (List ℕ)). Each (λ (r : Rule). Each (Contains z) (body_expressions r.body)) rules) (sym are)
    (rules_found (expressions_of body_expressions rules) 1 rules (all_found [] (appearances body_expressions 1 rules)))))
