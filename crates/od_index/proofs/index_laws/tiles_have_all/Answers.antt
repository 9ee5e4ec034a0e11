use Rattle.od_index.proofs.Tiles.{tiles-have-all, sizes-sum, first-seen}
use Rattle.od_index.proofs.index_laws.tiles_have_all.Goals as goal

pub returns-clause-all : goal.returns-clause-all
returns-clause-all c = tiles-have-all

pub returns-clause-sizes : goal.returns-clause-sizes
returns-clause-sizes c = sizes-sum

pub returns-clause-seen : goal.returns-clause-seen
returns-clause-seen c = first-seen
