use Rattle.od_asked.proofs.Fits.{table_fits}
use Rattle.od_asked.proofs.asked_laws.own_table_fits.Goals as goal

pub returns : goal.returns
returns c = table_fits
