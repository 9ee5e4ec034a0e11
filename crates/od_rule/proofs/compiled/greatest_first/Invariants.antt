use Rattle.std.proofs.Common.{◌≡◌, take}
use Rattle.od_matching.specs.Rounds.Phases.{greatest_first}
use Rattle.od_rule.proofs.compiled.greatest_first.Given as goal

abbrev pub invariant-loop-rule : goal.invariant-loop-rule
invariant-loop-rule l = l.greatest ≡ greatest_first (take l.rule-index l.rules)
