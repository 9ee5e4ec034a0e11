-- The ledger of a counter is the blank's.
use Rattle.od_workspace.proofs.workspace.session.found.Given as goal

abbrev pub ghosts-round_of : goal.ghosts-round_of
ghosts-round_of a = record { name = a.blank.name; parts = a.blank.parts }
