use Rattle.od_matching.proofs.Rounds.Later.{items-join, later-is-new, later-add-nothing}
use Rattle.od_matching.proofs.round_laws.later_documents_add.Goals as goal

pub returns-clause-items : goal.returns-clause-items
returns-clause-items c = items-join

pub returns-clause-none : goal.returns-clause-none
returns-clause-none c = later-is-new

pub returns-clause-round : goal.returns-clause-round
returns-clause-round c = later-add-nothing
