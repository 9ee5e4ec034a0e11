use Rattle.od_model.proofs.Histories.Openings.{opened-after}
use Rattle.od_model.proofs.Histories.Once.{one-opening}
use Rattle.od_model.proofs.history_laws.a_session_is_opened_once.Goals as goal

pub returns-clause-opened : goal.returns-clause-opened
returns-clause-opened c = λ start heads es h. opened-after start heads h.accepted es h.sound h.legal

pub returns-clause-once : goal.returns-clause-once
returns-clause-once c = one-opening
