use Rattle.od_asked.proofs.Built.{in_order}
use Rattle.od_asked.proofs.asked_laws.asks_in_order.Goals as goal

pub returns : goal.returns
returns c = in_order
