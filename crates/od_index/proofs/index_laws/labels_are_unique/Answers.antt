use Rattle.std.specs.Ordering.{nat_cmp}
use Rattle.std.specs.Cmp.Lexicographic.{slice_cmp}
use Rattle.od_index.specs.Postings.{edge_labels}
use Rattle.od_index.proofs.Orders.{one-ascending, texts-exact}
use Rattle.od_index.proofs.Placed.{ascending-is}
use Rattle.od_index.proofs.Postings.{one-list-of-edges}
use Rattle.od_index.proofs.index_laws.labels_are_unique.Goals as goal

pub returns-clause-one : goal.returns-clause-one
returns-clause-one c sentences a b p q = one-ascending (slice_cmp nat_cmp) texts-exact (edge_labels sentences) a b p q

pub returns-clause-computed : goal.returns-clause-computed
returns-clause-computed c sentences = ascending-is (slice_cmp nat_cmp) texts-exact (edge_labels sentences)

pub returns-clause-edges : goal.returns-clause-edges
returns-clause-edges c = one-list-of-edges
