use Rattle.od_document.proofs.Numbers as numbers
use Rattle.od_document.proofs.document_laws.reads_numbers.Goals as goal

pub returns : goal.returns
returns c = numbers.reads_numbers
