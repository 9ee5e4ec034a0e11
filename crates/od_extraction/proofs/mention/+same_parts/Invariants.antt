use Rattle.std.proofs.Common.{length}
use Rattle.od_extraction.proofs.mention.+same_parts.Given as goal

-- each turn leaves a shorter row
abbrev pub decreases-same_parts : goal.decreases-same_parts
decreases-same_parts l = length l.left.now
