-- Regular expressions where they first appear.
use Rattle.std.specs.Prelude.{◌≡◌, ℕ, false, List, [], ◌∷◌, ◌++◌, map}
use Rattle.od_rule_text.specs.Expressions.{Appearance, first_of_each}
use Rattle.od_rule_text.specs.Texts.{is_among}
use Rattle.od_grammar.specs.declared.expressions.Use.{Use}

-- an expression behind a reference
abbrev pub use_of : Use → Appearance
use_of u = record { rule = u.rule; expression = u.expression.now }

-- all of them
abbrev pub uses : List Use → List Appearance
uses us = map use_of us

-- some appearances were taken up: whatever follows them, what was found before with what is new
-- among all is what was found after with what is new among those that follow
abbrev pub IsNoted : List Appearance → (seen : List (List ℕ)) (found : List Appearance) →
    (seen_after : List (List ℕ)) (found_after : List Appearance) → Type 0
IsNoted taken seen found seen_after found_after =
    (more : List Appearance) →
    found ++ first_of_each seen (taken ++ more) ≡ found_after ++ first_of_each seen_after more

-- each expression is new: neither one of those seen before nor an earlier one
abbrev pub AreNew : (seen : List (List ℕ)) → List Appearance → Type 0
AreNew seen [] = Unit {0}
AreNew seen (a ∷ more) =
    (is_among seen a.expression ≡ false) × AreNew (seen ++ a.expression ∷ []) more
