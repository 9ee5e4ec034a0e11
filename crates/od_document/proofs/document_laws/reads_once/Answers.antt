use Rattle.od_document.proofs.Uniqueness as uniqueness
use Rattle.od_document.proofs.document_laws.reads_once.Goals as goal

pub returns : goal.returns
returns c = uniqueness.reads_once
