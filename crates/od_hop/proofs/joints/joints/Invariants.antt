use Rattle.std.proofs.Common.{◌≡◌, ◌-◌, ◌≤◌, drop, length}
use Rattle.od_syntax.specs.HopMachine.{alone}
use Rattle.od_syntax.specs.Sizes.{counted, hop_size}
use Rattle.od_syntax.specs.Told.{told}
use Rattle.od_hop.specs.Reading.{hop_from}
use Rattle.od_hop.proofs.Verdicts.{hop_with}
use Rattle.od_hop.proofs.joints.joints.Given as goal

abbrev pub invariant-loop-alloc : goal.invariant-loop-alloc
invariant-loop-alloc l = record {
  same : l.pattern ≡ l.fn.first.pattern;
  on : l.i ≤ length l.lexemes;
  size : l.sum ≡ counted (hop_size (hop_with l.fn.first.pattern l.rest));
  goes : hop_from l.again 0 (alone l.fn.first.pattern) (told (drop l.fn.first.to l.lexemes)) ≡ hop_from l.again 0 (hop_with l.fn.first.pattern l.rest) (told (drop l.i l.lexemes));
}

abbrev pub decreases-loop-alloc : goal.decreases-loop-alloc
decreases-loop-alloc l = length l.lexemes - l.i
