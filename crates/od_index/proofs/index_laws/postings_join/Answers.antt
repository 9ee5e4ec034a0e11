use Rattle.od_index.proofs.Numbered.{postings-join, edges-join}
use Rattle.od_index.proofs.index_laws.postings_join.Goals as goal

pub returns-clause-terms : goal.returns-clause-terms
returns-clause-terms c = postings-join

pub returns-clause-edges : goal.returns-clause-edges
returns-clause-edges c = edges-join
