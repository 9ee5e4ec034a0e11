use Rattle.std.proofs.Common.{◌≡◌, ◌≤◌, ◌*◌, take}
use Rattle.od_extraction.specs.Joined.{joined}
use Rattle.od_extraction.specs.Mentions.{distinct}
use Rattle.od_extraction.specs.Weight.{weight, most_weight}
use Rattle.od_rounds.proofs.resuming.known_of.Given as goal

abbrev pub invariant-loop-place : goal.invariant-loop-place
invariant-loop-place l = (l.known ≡ distinct (joined (take l.place l.lists))) × (weight l.known ≤ l.place * most_weight)
