use Rattle.std.proofs.Common.{length}
use Rattle.od_lex.proofs.form.+all_in_identifier.Given as goal

abbrev pub decreases-all_in_identifier : goal.decreases-all_in_identifier
decreases-all_in_identifier l = length l.name.now
