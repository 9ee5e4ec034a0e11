use Rattle.od_index.proofs.Numbered.{sites-join}
use Rattle.od_index.proofs.index_laws.sites_join.Goals as goal

pub returns : goal.returns
returns c = sites-join
