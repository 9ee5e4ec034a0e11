use Rattle.std.proofs.Common.{length}
use Rattle.od_surface.proofs.single.+all_in_name.Given as goal

abbrev pub decreases-all_in_name : goal.decreases-all_in_name
decreases-all_in_name l = length l.bytes.now
