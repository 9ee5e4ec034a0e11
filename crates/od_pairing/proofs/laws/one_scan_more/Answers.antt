use Rattle.od_pairing.proofs.Parts as parts
use Rattle.od_pairing.proofs.laws.one_scan_more.Goals as goal

pub returns : goal.returns
returns c = parts.one_scan_more
