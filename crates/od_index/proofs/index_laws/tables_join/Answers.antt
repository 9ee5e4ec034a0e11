use Rattle.od_index.proofs.Tables.{table-short, tables-join, table-serves}
use Rattle.od_index.proofs.index_laws.tables_join.Goals as goal

pub returns-clause-short : goal.returns-clause-short
returns-clause-short c = table-short

pub returns-clause-join : goal.returns-clause-join
returns-clause-join c = tables-join

pub returns-clause-serves : goal.returns-clause-serves
returns-clause-serves c = table-serves
