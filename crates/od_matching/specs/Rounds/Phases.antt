-- Whether a session's rounds go on.
use Rattle.std.specs.Prelude.{ℕ, max, List, length, fold, Bool, false, ◌&&◌, if◌then◌else◌, ◌==◌, nat_le}
use Rattle.od_pattern.specs.declared.rule.Rule.{Rule}
use Rattle.od_extraction.specs.declared.mention.Mention.{Mention}
use Rattle.od_extraction.specs.declared.phase.Phase.{Phase}
use Rattle.od_extraction.specs.declared.phase.Phase.TheVariants.{Going, Finished, AtLimit}

-- the greatest first round of any rule
abbrev pub greatest_first : List Rule → ℕ
greatest_first rules = fold (λ n rule. max n rule.priority.first) 0 rules

-- there is a last list, and it is empty
abbrev pub ends_empty : List (List Mention) → Bool
ends_empty lists = fold (λ b l. length l == 0) false lists

-- finished after a round that added nothing, once every rule has begun; at the limit after as many
-- rounds; else going
unfoldable pub phase : ℕ → ℕ → List (List Mention) → Phase
phase first limit lists =
    if ends_empty lists && nat_le first (length lists) then Finished
    else (if length lists == limit then AtLimit else Going)
