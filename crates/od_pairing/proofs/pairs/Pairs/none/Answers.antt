-- No row is no pair.
use Rattle.std.proofs.Common.{refl}
use Rattle.od_pairing.proofs.pairs.Pairs.none.Goals as goal

pub returns : goal.returns
returns c = rw c.new-2.ensures refl
