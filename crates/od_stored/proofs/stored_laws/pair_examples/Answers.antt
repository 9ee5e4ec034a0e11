use Rattle.od_stored.proofs.Examples as cases
use Rattle.od_stored.proofs.stored_laws.pair_examples.Goals as goal

pub returns : goal.returns
returns c = cases.pair_examples
