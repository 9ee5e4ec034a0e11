use Rattle.od_matching.proofs.Matching.Growing.{products_grow}
use Rattle.od_matching.proofs.matching_laws.products_grow.Goals as goal

pub returns : goal.returns
returns c = products_grow
