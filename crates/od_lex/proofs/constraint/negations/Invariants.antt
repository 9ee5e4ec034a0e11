use Rattle.std.proofs.Common.{◌≡◌, ℕ, ◌+◌, ◌-◌, drop, length, Option}
use Rattle.od_pattern.specs.declared.pattern.Constraint.{Constraint}
use Rattle.od_language.specs.ConstraintMachine.{Open, operand}
use Rattle.od_lex.specs.Machine.{run}
use Rattle.od_lex.proofs.constraint.negations.Given as goal

abbrev pub invariant-loop-x : goal.invariant-loop-x
invariant-loop-x l = record {
  counted : l.from + l.count ≡ l.i;
  goes : (d n : ℕ) (a o : Option Constraint) (k : Open) → run d (operand n a o k) (drop l.from l.lexemes) ≡ run d (operand (n + l.count) a o k) (drop l.i l.lexemes);
}

abbrev pub decreases-loop-x : goal.decreases-loop-x
decreases-loop-x l = length l.lexemes - l.i
