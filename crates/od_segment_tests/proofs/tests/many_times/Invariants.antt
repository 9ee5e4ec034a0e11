use Rattle.std.proofs.Common.{◌≡◌, length}
use Rattle.od_segment_tests.proofs.tests.many_times.Given as goal

abbrev pub invariant-loop-place : goal.invariant-loop-place
invariant-loop-place l = length l.tokens ≡ l._place
