use Rattle.od_model.proofs.Histories.Frames.{docs-grow-after}
use Rattle.od_model.proofs.history_laws.documents_only_grow.Goals as goal

pub returns : goal.returns
returns c = docs-grow-after
