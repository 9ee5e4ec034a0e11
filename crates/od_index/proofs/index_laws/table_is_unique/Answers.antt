use Rattle.od_index.specs.Tables.{term_cmp}
use Rattle.od_index.proofs.Placed.{ascending-is}
use Rattle.od_index.proofs.Tables.{one-table, terms-exact}
use Rattle.od_index.proofs.index_laws.table_is_unique.Goals as goal

pub returns-clause-one : goal.returns-clause-one
returns-clause-one c = one-table

pub returns-clause-computed : goal.returns-clause-computed
returns-clause-computed c terms = ascending-is term_cmp terms-exact terms
