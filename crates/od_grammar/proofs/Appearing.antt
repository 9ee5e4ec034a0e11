-- The different expressions of rules, taken up one after another.
use Rattle.std.proofs.Common.{◌≡◌, ℕ, ◌+◌, ◌<◌, List, [], ◌∷◌, ◌++◌, length, drop, get_or, Bool, true, false, refl, sym, ap, ap₂, ◌∙◌, append_assoc}
use Rattle.std.specs.Prelude.{if◌then◌else◌}
use Rattle.std.proofs.lemmas.List.{drop_more}
use Rattle.od_pattern.specs.declared.rule.Rule.{Rule}
use Rattle.od_asked.specs.Asked.{asked_rule}
use Rattle.od_asked.specs.Expressions.{expressions_of as asked_expressions}
use Rattle.od_grammars.proofs.SameExpressions.{expressions_are_asked}
use Rattle.od_rule_text.specs.Expressions.{Appearance, appearances_in, appearances, first_of_each, first_appearances, body_expressions}
use Rattle.od_rule_text.specs.Texts.{is_among}
use Rattle.od_grammar.specs.Uses.{IsNoted, AreNew}

-- ## One expression

abbrev first_with : (seen : List (List ℕ)) → Appearance → List Appearance → Bool → List Appearance
first_with seen a more b = if b then first_of_each seen more else a ∷ first_of_each (seen ++ a.expression ∷ []) more

-- that was seen
pub noted_again : (seen : List (List ℕ)) (found : List Appearance) (a : Appearance) → is_among seen a.expression ≡ true → IsNoted (a ∷ []) seen found seen found
noted_again seen found a e more = ap (λ b. found ++ first_with seen a more b) e

-- that is new
pub noted_new : (seen seen_after : List (List ℕ)) (found found_after : List Appearance) (a : Appearance) → is_among seen a.expression ≡ false
    → seen_after ≡ seen ++ a.expression ∷ [] → found_after ≡ found ++ a ∷ [] → IsNoted (a ∷ []) seen found seen_after found_after
noted_new seen seen_after found found_after a e s f more =
    ap (λ b. found ++ first_with seen a more b) e
    ∙ sym (append_assoc found (a ∷ []) (first_of_each (seen ++ a.expression ∷ []) more))
    ∙ ap₂ (λ (fs : List Appearance) (ss : List (List ℕ)). fs ++ first_of_each ss more) (sym f) (sym s)

-- ## All rules

-- one rule more
pub uses_more : (whole : List Appearance) (rules : List Rule) (i n : ℕ) (r : Rule) (es : List (List ℕ)) (s t : List (List ℕ)) (f g : List Appearance)
    → i < length rules → r ≡ get_or rules i r → n ≡ i → es ≡ asked_expressions (asked_rule r) → IsNoted (appearances_in (n + 1) es) s f t g
    → whole ≡ f ++ first_of_each s (appearances body_expressions (i + 1) (drop i rules))
    → whole ≡ g ++ first_of_each t (appearances body_expressions (i + 1 + 1) (drop (i + 1) rules))
uses_more whole rules i n r es s t f g lt e number asked noted all =
    all
    ∙ ap (λ (z : List Rule). f ++ first_of_each s (appearances body_expressions (i + 1) z)) (drop_more rules i r lt ∙ ap (λ (z : Rule). z ∷ drop (i + 1) rules) (sym e))
    ∙ ap (λ (z : List (List ℕ)). f ++ first_of_each s (appearances_in (i + 1) z ++ appearances body_expressions (i + 1 + 1) (drop (i + 1) rules)))
    (expressions_are_asked r.body ∙ sym asked)
    ∙ ap (λ (k : ℕ). f ++ first_of_each s (appearances_in (k + 1) es ++ appearances body_expressions (i + 1 + 1) (drop (i + 1) rules))) (sym number)
    ∙ noted (appearances body_expressions (i + 1 + 1) (drop (i + 1) rules))

-- ## They differ

new_of_each : (seen : List (List ℕ)) (xs : List Appearance) → AreNew seen (first_of_each seen xs)
new_of_each seen [] = tt
new_of_each seen (a ∷ xs) = by (is_among seen a.expression) refl (new_of_each seen xs) (new_of_each (seen ++ a.expression ∷ []) xs)
  where
    by : (b : Bool) → is_among seen a.expression ≡ b → AreNew seen (first_of_each seen xs)
        → AreNew (seen ++ a.expression ∷ []) (first_of_each (seen ++ a.expression ∷ []) xs) → AreNew seen (first_with seen a xs b)
    by true e h k = h
    by false e h k = (e, k)

pub uses_new : (rules : List Rule) → AreNew [] (first_appearances body_expressions rules)
uses_new rules = new_of_each [] (appearances body_expressions 1 rules)
