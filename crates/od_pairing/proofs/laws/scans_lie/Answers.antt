use Rattle.od_pairing.proofs.Lying.{scan-lies, hop_scans-lie}
use Rattle.od_pairing.proofs.laws.scans_lie.Goals as goal

pub returns-clause-scan : goal.returns-clause-scan
returns-clause-scan c = λ p s m. scan-lies s m p

pub returns-clause-hop : goal.returns-clause-hop
returns-clause-hop c = λ h s m. hop_scans-lie s m h
