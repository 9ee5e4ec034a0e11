use Rattle.od_matching.proofs.Matching.Takes.{takes_token}
use Rattle.od_matching.proofs.matching_laws.takes_where_not_nullable.Goals as goal

pub returns : goal.returns
returns c = takes_token
