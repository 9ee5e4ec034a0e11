-- What mentions weigh.
use Rattle.std.specs.Prelude.{ℕ, ◌+◌, List, length, sum_by}
use Rattle.od_extraction.specs.declared.mention.Mention.{Mention}
use Rattle.od_extraction.specs.declared.mention.TheConstants.{SESSION_WEIGHT}

-- a mention weighs one and the number of its parts
abbrev pub weight : List Mention → ℕ
weight ms = sum_by (λ m. 1 + length m.parts) ms

-- what the mentions of a session may weigh
abbrev pub most_weight : ℕ
most_weight = SESSION_WEIGHT
