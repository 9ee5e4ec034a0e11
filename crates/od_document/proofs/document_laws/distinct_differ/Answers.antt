use Rattle.od_document.proofs.Edges.{AllPairs-distinct}
use Rattle.od_document.proofs.document_laws.distinct_differ.Goals as goal

pub returns : goal.returns
returns c = AllPairs-distinct
