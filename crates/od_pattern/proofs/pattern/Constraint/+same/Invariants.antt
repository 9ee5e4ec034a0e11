use Rattle.std.proofs.Common.{◌≡◌, ◌↔◌, ◌≤◌}
use Rattle.od_pattern.specs.declared.pattern.Constraint.{size-Constraint}
use Rattle.od_pattern.proofs.pattern.Constraint.+same.Given as goal

abbrev pub invariant-loop-left : goal.invariant-loop-left
invariant-loop-left l = record {
  alike : (l.left ≡ l.right) ↔ (l.fn.self ≡ l.fn.other);
  no_deeper : size-Constraint l.left ≤ size-Constraint l.initial.left;
}
