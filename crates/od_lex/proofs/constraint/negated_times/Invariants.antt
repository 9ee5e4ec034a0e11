use Rattle.std.proofs.Common.{◌≡◌, ◌-◌}
use Rattle.od_language.specs.ConstraintMachine.{negated}
use Rattle.od_lex.proofs.constraint.negated_times.Given as goal

abbrev pub invariant-loop-k : goal.invariant-loop-k
invariant-loop-k l = negated (l.count - l._k) l.whole ≡ negated l.count l.fn.c
