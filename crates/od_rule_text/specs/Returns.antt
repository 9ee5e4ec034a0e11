-- A text whose lines end by CR and LF.
use Rattle.std.specs.Prelude.{◌≡◌, ℕ, ◌==◌, false, List, [], ◌∷◌, if◌then◌else◌}
use Rattle.std.specs.List.{list_any}
use Rattle.od_rule_text.specs.RuleFiles.{rule_file_of}

-- a carriage return before each line feed
abbrev pub with_returns : List ℕ → List ℕ
with_returns [] = []
with_returns (c ∷ text) = if c == 10 then 13 ∷ 10 ∷ with_returns text else c ∷ with_returns text

-- a rule file without carriage returns says the same with one before each line feed
abbrev pub ReadsReturns : Type 0
ReadsReturns =
    (text : List ℕ) → list_any (λ c. c == 13) text ≡ false → rule_file_of (with_returns text) ≡ rule_file_of text
