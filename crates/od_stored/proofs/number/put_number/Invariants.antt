use Rattle.std.proofs.Common.{◌≡◌, ℕ, ◌<◌, ◌++◌}
use Rattle.od_stored.specs.Numbers.{septets, limit, number_bytes}
use Rattle.od_stored.proofs.number.put_number.Given as goal

-- what is above the bytes so far is still to be written, in so many bytes behind the next one
abbrev pub invariant-loop-above : goal.invariant-loop-above
invariant-loop-above l = (k : ℕ) × (l.above < limit k) × (l.out.items ++ septets k l.above ≡ l.fn.out.items ++ number_bytes l.n)

abbrev pub decreases-loop-above : goal.decreases-loop-above
decreases-loop-above l = l.above
