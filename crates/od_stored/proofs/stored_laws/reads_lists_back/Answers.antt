use Rattle.od_stored.proofs.MentionLaws.{list_again}
use Rattle.od_stored.proofs.stored_laws.reads_lists_back.Goals as goal

pub returns : goal.returns
returns c = list_again
