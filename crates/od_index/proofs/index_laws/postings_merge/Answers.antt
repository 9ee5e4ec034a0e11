use Rattle.od_index.proofs.Segments.{postings-merge, edge-postings-merge}
use Rattle.od_index.proofs.index_laws.postings_merge.Goals as goal

pub returns-clause-terms : goal.returns-clause-terms
returns-clause-terms c = postings-merge

pub returns-clause-edges : goal.returns-clause-edges
returns-clause-edges c = edge-postings-merge
