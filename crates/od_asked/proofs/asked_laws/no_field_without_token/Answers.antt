use Rattle.od_asked.proofs.Absent.{no_text}
use Rattle.od_asked.proofs.asked_laws.no_field_without_token.Goals as goal

pub returns : goal.returns
returns c = no_text
