-- The runners of a grammar, each with the text of its regular expression.
use Rattle.std.specs.Prelude.{◌≡◌, ℕ, List, map, Contains}
use Rattle.od_text.specs.Lists.{Each}

-- the texts of the expressions
abbrev pub patterns_of : {R : Type 0} → List (List ℕ × R) → List (List ℕ)
patterns_of pairs = map (λ pair. pair.0) pairs

-- each text is the pattern of its runner
abbrev pub AreOwn : {R : Type 0} → (R → List ℕ) → List (List ℕ × R) → Type 0
AreOwn pattern pairs = Each (λ pair. pattern pair.1 ≡ pair.0) pairs

-- there is a runner of each of these expressions
abbrev pub HaveAll : {R : Type 0} → List (List ℕ × R) → List (List ℕ) → Type 0
HaveAll pairs expressions = Each (Contains (patterns_of pairs)) expressions
