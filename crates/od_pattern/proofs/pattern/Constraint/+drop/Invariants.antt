use Rattle.std.proofs.Common.{◌≤◌}
use Rattle.od_pattern.specs.declared.pattern.Constraint.{size-Constraint}
use Rattle.od_pattern.proofs.pattern.Constraint.+drop.Given as goal

-- What is left to drop is no deeper than the whole.
abbrev pub invariant-loop-self : goal.invariant-loop-self
invariant-loop-self l = size-Constraint l.self ≤ size-Constraint l.initial.self
