-- The bytes so far are in the hash.
use Rattle.std.proofs.Common.{◌≡◌, length, fold, take}
use Rattle.od_mentions.specs.Hashes.{mixed}
use Rattle.od_mentions.proofs.hashes.mix_text.Given as goal

abbrev pub invariant-loop-byte : goal.invariant-loop-byte
invariant-loop-byte l = l.state ≡ fold mixed (mixed l.hash (length l.bytes)) (take l.byte-index l.bytes)
