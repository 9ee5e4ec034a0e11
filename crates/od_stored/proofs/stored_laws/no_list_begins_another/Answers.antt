use Rattle.od_stored.proofs.MentionLaws.{list_begins_none}
use Rattle.od_stored.proofs.stored_laws.no_list_begins_another.Goals as goal

pub returns : goal.returns
returns c = list_begins_none
