-- The entries of the sentences so far.
use Rattle.std.proofs.Common.{◌≡◌, take, map, flat_map}
use Rattle.std.specs.List.{enumerate_from}
use Rattle.od_posted.specs.Entries.{marks_of, sentence_marks}
use Rattle.od_posted.proofs.lists.entries_of.Given as goal

abbrev pub invariant-loop-place : goal.invariant-loop-place
invariant-loop-place l = marks_of l._table l.entries.items ≡ flat_map sentence_marks (enumerate_from 0 (take l.place (map (λ s. s.sentence) l.sentences)))
