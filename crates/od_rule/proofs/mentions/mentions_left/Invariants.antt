use Rattle.std.proofs.Common.{◌≡◌, ◌++◌, length, map}
use Rattle.od_matching.specs.Matching.Rules.{mention_at}
use Rattle.od_rule.specs.Left.{left_in}
use Rattle.od_rule.proofs.mentions.mentions_left.Given as goal

abbrev pub invariant-loop-mentions : goal.invariant-loop-mentions
invariant-loop-mentions l =
    l.mentions ++ map (mention_at l.rule l.document l.sentence) (left_in l.left)
    ≡ map (mention_at l.rule l.document l.sentence) (left_in l.initial.left)

abbrev pub decreases-loop-mentions : goal.decreases-loop-mentions
decreases-loop-mentions l = length (left_in l.left)
