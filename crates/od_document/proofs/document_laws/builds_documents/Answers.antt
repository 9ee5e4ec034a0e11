use Rattle.od_document.proofs.Existence as existence
use Rattle.od_document.proofs.document_laws.builds_documents.Goals as goal

pub returns : goal.returns
returns c = existence.builds_documents
