use Rattle.std.proofs.Common.{◌≡◌, take, flat_map}
use Rattle.od_line.specs.Mentions.{mention_line}
use Rattle.od_extraction.specs.Joined.{joined}
use Rattle.od_lines.proofs.lines.mention.counted_lines.Given as goal

-- the lines of the rounds before the next one stand
abbrev pub invariant-loop-round : goal.invariant-loop-round
invariant-loop-round g l = l.lines.items ≡ flat_map (mention_line l.session l.docs) (joined (take l.round-index l.rounds))
