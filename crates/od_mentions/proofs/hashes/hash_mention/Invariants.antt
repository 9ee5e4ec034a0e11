-- The parts so far are in the hash.
use Rattle.std.proofs.Common.{◌≡◌, fold, take}
use Rattle.od_mentions.specs.Hashes.{part_mixed}
use Rattle.od_mentions.proofs.hashes.hash_mention.Given as goal

abbrev pub invariant-loop-part : goal.invariant-loop-part
invariant-loop-part l = l.state ≡ fold part_mixed l.initial.state (take l.part-index l.mention.parts)
