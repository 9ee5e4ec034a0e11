use Rattle.std.proofs.Common.{◌≡◌, length}
use Rattle.std.specs.Prelude.{slice_get}
use Rattle.od_segment_tests.proofs.tests.collect.Given as goal

abbrev pub invariant-loop-first : goal.invariant-loop-first
invariant-loop-first g l = l.first ≡ slice_get (g.C.Cursor.rest l.cursor) 0

abbrev pub decreases-loop-first : goal.decreases-loop-first
decreases-loop-first g l = length (g.C.Cursor.rest l.cursor)
