use Rattle.od_index.proofs.Postings.{postings-ascend, edge-postings-join}
use Rattle.od_index.proofs.index_laws.postings_ascend.Goals as goal

pub returns-clause-terms : goal.returns-clause-terms
returns-clause-terms c = postings-ascend

pub returns-clause-edges : goal.returns-clause-edges
returns-clause-edges c = edge-postings-join
