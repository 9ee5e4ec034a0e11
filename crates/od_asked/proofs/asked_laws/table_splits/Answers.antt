use Rattle.od_asked.proofs.Fits.{fit_split}
use Rattle.od_asked.proofs.asked_laws.table_splits.Goals as goal

pub returns : goal.returns
returns c = fit_split
