use Rattle.od_mark.proofs.Histories.{join_histories}
use Rattle.od_mark.proofs.mark_laws.histories_join.Goals as goal

pub returns : goal.returns
returns c = join_histories
