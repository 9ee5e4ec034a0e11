use Rattle.od_index.proofs.Segments.{merged-stands}
use Rattle.od_index.proofs.Tiles.{tiles-grow, tiles-merge}
use Rattle.od_index.proofs.index_laws.tiles_change.Goals as goal

pub returns-clause-grow : goal.returns-clause-grow
returns-clause-grow c = tiles-grow

pub returns-clause-merged : goal.returns-clause-merged
returns-clause-merged c = merged-stands

pub returns-clause-merge : goal.returns-clause-merge
returns-clause-merge c = tiles-merge
