use Rattle.od_document.proofs.Existence as existence
use Rattle.od_document.proofs.document_laws.document_or_fault.Goals as goal

pub returns : goal.returns
returns c = existence.document_or_fault
