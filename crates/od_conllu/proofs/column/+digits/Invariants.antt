use Rattle.std.proofs.Common.{length}
use Rattle.od_conllu.proofs.column.+digits.Given as goal

abbrev pub decreases-digits : goal.decreases-digits
decreases-digits l = length l.text.now
