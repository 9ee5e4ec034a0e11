use Rattle.od_extraction.proofs.Sameness.{mention-Decides}
use Rattle.od_matching.proofs.matching_laws.sameness_is_equality.Goals as goal

pub returns : goal.returns
returns c = mention-Decides
