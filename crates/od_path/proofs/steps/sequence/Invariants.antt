use Rattle.std.proofs.Common.{◌≡◌, ◌-◌, ◌<◌, ◌≤◌, [], ◌∷◌, drop, length}
use Rattle.od_syntax.specs.Sizes.{counted}
use Rattle.od_syntax.specs.StepsMachine.{turned}
use Rattle.od_syntax.specs.Told.{told}
use Rattle.od_path.specs.Machine.{sequence_size}
use Rattle.od_path.specs.Steps.{steps_run}
use Rattle.od_path.proofs.steps.sequence.Given as goal

abbrev pub invariant-loop-alloc : goal.invariant-loop-alloc
invariant-loop-alloc l = record {
  on : (l.fn.first.to < l.i) × (l.i ≤ length l.lexemes);
  many : 2 ≤ length l.list;
  size : l.size ≡ counted (sequence_size l.list);
  goes : steps_run l.depth (turned (l.fn.first.path ∷ [])) (told (drop l.fn.first.to l.lexemes)) ≡ steps_run l.depth (turned l.list) (told (drop l.i l.lexemes));
}

abbrev pub decreases-loop-alloc : goal.decreases-loop-alloc
decreases-loop-alloc l = length l.lexemes - l.i
