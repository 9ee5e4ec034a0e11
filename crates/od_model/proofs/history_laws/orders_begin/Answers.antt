use Rattle.od_model.proofs.Histories.Orders.{Follows-begun, Begins-front}
use Rattle.od_model.proofs.history_laws.orders_begin.Goals as goal

pub returns-clause-whole : goal.returns-clause-whole
returns-clause-whole c = Follows-begun

pub returns-clause-front : goal.returns-clause-front
returns-clause-front c = Begins-front
