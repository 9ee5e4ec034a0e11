use Rattle.od_index.proofs.Tables.{each-numbered, one-number}
use Rattle.od_index.proofs.index_laws.terms_are_numbered.Goals as goal

pub returns-clause-each : goal.returns-clause-each
returns-clause-each c = each-numbered

pub returns-clause-one : goal.returns-clause-one
returns-clause-one c = one-number
