use Rattle.od_index.specs.Ascending.{pair_cmp}
use Rattle.od_index.specs.Postings.{edges_with}
use Rattle.od_index.proofs.Orders.{one-ascending, pairs-exact}
use Rattle.od_index.proofs.Placed.{ascending-is}
use Rattle.od_index.proofs.index_laws.edge_posting_is_unique.Goals as goal

pub returns-clause-one : goal.returns-clause-one
returns-clause-one c label sentences a b p q = one-ascending pair_cmp pairs-exact (edges_with label sentences) a b p q

pub returns-clause-computed : goal.returns-clause-computed
returns-clause-computed c label sentences = ascending-is pair_cmp pairs-exact (edges_with label sentences)
