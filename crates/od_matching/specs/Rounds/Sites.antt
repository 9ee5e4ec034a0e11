-- Where a round looks: which rules it runs, on which sentences.
use Rattle.std.specs.Prelude.{ℕ, List, filter, Option, Some, None, Bool, true, ◌&&◌, nat_le}
use Rattle.std.specs.List.{enumerate_from}
use Rattle.od_pattern.specs.declared.rule.Rule.{Rule}
use Rattle.od_pattern.specs.declared.rule.Priority.{Priority}
use Rattle.od_pattern.specs.declared.grammar.Grammar.{Grammar}
pub use Rattle.od_index.specs.Sites.{Site, sites_of, sites}

-- the round is not after the last
abbrev pub runs_to : ℕ → Option ℕ → Bool
runs_to r None = true
runs_to r (Some last) = nat_le r last

-- the priority holds the round
abbrev pub runs_in : ℕ → Priority → Bool
runs_in r p = nat_le p.first r && runs_to r p.last

-- the rules of round r with their numbers from 1, in the order of the file
abbrev pub rules_in : ℕ → Grammar → List (ℕ × Rule)
rules_in r g = filter (λ n. runs_in r n.1.priority) (enumerate_from 1 g.rules)
