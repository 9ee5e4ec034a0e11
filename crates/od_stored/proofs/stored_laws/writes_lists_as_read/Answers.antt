use Rattle.od_stored.proofs.MentionLaws.{list_takes}
use Rattle.od_stored.proofs.stored_laws.writes_lists_as_read.Goals as goal

pub returns : goal.returns
returns c = list_takes
