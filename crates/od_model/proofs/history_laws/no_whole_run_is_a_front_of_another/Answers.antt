use Rattle.od_model.proofs.Histories.Orders.{Follows-whole}
use Rattle.od_model.proofs.history_laws.no_whole_run_is_a_front_of_another.Goals as goal

pub returns : goal.returns
returns c = Follows-whole
