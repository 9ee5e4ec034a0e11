-- The ledger of a counter is the blank's.
use Rattle.od_lines.proofs.lines.mention.session_lines.Given as goal

abbrev pub ghosts-counted_lines : goal.ghosts-counted_lines
ghosts-counted_lines a = record { name = a.blank.name; parts = a.blank.parts }
