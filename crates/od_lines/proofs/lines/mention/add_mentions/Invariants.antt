use Rattle.std.proofs.Common.{◌≡◌, ◌++◌, take, flat_map}
use Rattle.od_line.specs.Mentions.{mention_line}
use Rattle.od_lines.proofs.lines.mention.add_mentions.Given as goal

-- the lines of the mentions before the next one stand
abbrev pub invariant-loop-mention : goal.invariant-loop-mention
invariant-loop-mention g l = l.lines.items ≡ l.fn.out.items ++ flat_map (mention_line l.session l.docs) (take l.mention-index l.mentions)
