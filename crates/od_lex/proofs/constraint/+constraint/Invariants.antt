use Rattle.std.proofs.Common.{◌≡◌, ◌+◌, ◌-◌, ◌*◌, ◌<◌, drop, length, Option, None}
use Rattle.od_pattern.specs.declared.pattern.Constraint.{Constraint}
use Rattle.od_language.specs.ConstraintMachine.{Open, operand, after}
use Rattle.od_lex.specs.Machine.{run, NoAnd}
use Rattle.od_lex.proofs.constraint.+constraint.Given as goal

abbrev pub decreases-bare_operand : goal.decreases-bare_operand
decreases-bare_operand l = (101 - l.depth) * 5

abbrev pub decreases-unary : goal.decreases-unary
decreases-unary l = (101 - l.depth) * 5 + 1

abbrev pub decreases-all_of : goal.decreases-all_of
decreases-all_of l = (101 - l.depth) * 5 + 2

abbrev pub decreases-alternatives : goal.decreases-alternatives
decreases-alternatives l = (101 - l.depth) * 5 + 3

abbrev pub decreases-grouped : goal.decreases-grouped
decreases-grouped l = (101 - l.depth) * 5 + 4

abbrev pub invariant-all_of-loop-alloc : goal.invariant-all_of-loop-alloc
invariant-all_of-loop-alloc l = record {
  on : l.from < l.i;
  goes : (o : Option Constraint) (k : Open) → run l.depth (operand 0 None o k) (drop l.from l.lexemes) ≡ run l.depth (after l.left o k) (drop l.i l.lexemes);
}

abbrev pub decreases-all_of-loop-alloc : goal.decreases-all_of-loop-alloc
decreases-all_of-loop-alloc l = length l.lexemes - l.i

abbrev pub invariant-alternatives-loop-alloc : goal.invariant-alternatives-loop-alloc
invariant-alternatives-loop-alloc l = record {
  on : l.from < l.i;
  stops : NoAnd (drop l.i l.lexemes);
  goes : (k : Open) → run l.depth (operand 0 None None k) (drop l.from l.lexemes) ≡ run l.depth (after l.left None k) (drop l.i l.lexemes);
}

abbrev pub decreases-alternatives-loop-alloc : goal.decreases-alternatives-loop-alloc
decreases-alternatives-loop-alloc l = length l.lexemes - l.i
