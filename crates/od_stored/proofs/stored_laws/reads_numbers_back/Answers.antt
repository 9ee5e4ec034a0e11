use Rattle.od_stored.proofs.NumberLaws.{number_again}
use Rattle.od_stored.proofs.stored_laws.reads_numbers_back.Goals as goal

pub returns : goal.returns
returns c = number_again
