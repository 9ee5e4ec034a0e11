use Rattle.od_matching.proofs.Rounds.Terms.{terms-are-texts}
use Rattle.od_matching.proofs.round_laws.terms_are_texts.Goals as goal

pub returns : goal.returns
returns c = terms-are-texts
