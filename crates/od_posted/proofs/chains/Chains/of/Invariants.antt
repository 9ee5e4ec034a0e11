-- The edges behind those that are left are linked.
use Rattle.std.proofs.Common.{◌-◌}
use Rattle.od_posted.specs.Chains.{AreChained}
use Rattle.od_posted.proofs.chains.Chains.of.Given as goal

abbrev pub invariant-loop-passed : goal.invariant-loop-passed
invariant-loop-passed l = AreChained l.end l.sentence.sentence (l.count - l.passed) l.firsts.items l.nexts.items
