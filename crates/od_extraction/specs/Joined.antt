-- The mentions of several rounds.
use Rattle.std.specs.Prelude.{List, flat_map}
use Rattle.od_extraction.specs.declared.mention.Mention.{Mention}

-- the mentions of all rounds
abbrev pub joined : List (List Mention) → List Mention
joined lists = flat_map (λ l. l) lists
