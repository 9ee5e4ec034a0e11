use Rattle.od_stored.proofs.FaultLaws.{faults_lie}
use Rattle.od_stored.proofs.stored_laws.places_faults.Goals as goal

pub returns : goal.returns
returns c = faults_lie
