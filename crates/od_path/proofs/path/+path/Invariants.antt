use Rattle.std.proofs.Common.{◌≡◌, ◌+◌, ◌-◌, ◌*◌, ◌<◌, ◌≤◌, List, [], ◌∷◌, drop, length}
use Rattle.od_pattern.specs.declared.path.Path.{Path}
use Rattle.od_syntax.specs.PathMachine.{Around, turned, listed}
use Rattle.od_syntax.specs.Sizes.{counted}
use Rattle.od_path.specs.Machine.{run, sequence_size, alternation_size}
use Rattle.od_path.proofs.path.+path.Given as goal

abbrev pub decreases-path_atom : goal.decreases-path_atom
decreases-path_atom l = (101 - l.depth) * 7

abbrev pub decreases-path_part : goal.decreases-path_part
decreases-path_part l = (101 - l.depth) * 7 + 1

abbrev pub decreases-sequence : goal.decreases-sequence
decreases-sequence l = (101 - l.depth) * 7 + 2

abbrev pub decreases-parts : goal.decreases-parts
decreases-parts l = (101 - l.depth) * 7 + 3

abbrev pub decreases-alternation : goal.decreases-alternation
decreases-alternation l = (101 - l.depth) * 7 + 4

abbrev pub decreases-choices : goal.decreases-choices
decreases-choices l = (101 - l.depth) * 7 + 5

abbrev pub decreases-grouped : goal.decreases-grouped
decreases-grouped l = (101 - l.depth) * 7 + 6

abbrev pub invariant-sequence-loop-alloc : goal.invariant-sequence-loop-alloc
invariant-sequence-loop-alloc l = record {
  on : (l.fn.first.to < l.i) × (l.i ≤ length l.lexemes);
  many : 2 ≤ length l.list;
  size : l.size ≡ counted (sequence_size l.list);
  goes : (a : List Path) (k : Around) → run l.depth (turned a (l.fn.first.path ∷ []) k) (drop l.fn.first.to l.lexemes) ≡ run l.depth (turned a l.list k) (drop l.i l.lexemes);
}

abbrev pub decreases-sequence-loop-alloc : goal.decreases-sequence-loop-alloc
decreases-sequence-loop-alloc l = length l.lexemes - l.i

abbrev pub invariant-alternation-loop-alloc : goal.invariant-alternation-loop-alloc
invariant-alternation-loop-alloc l = record {
  on : (l.fn.first.to < l.i) × (l.i ≤ length l.lexemes);
  many : 2 ≤ length l.list;
  size : l.size ≡ counted (alternation_size l.list);
  goes : (k : Around) → run l.depth (listed (l.fn.first.path ∷ []) k) (drop l.fn.first.to l.lexemes) ≡ run l.depth (listed l.list k) (drop l.i l.lexemes);
}

abbrev pub decreases-alternation-loop-alloc : goal.decreases-alternation-loop-alloc
decreases-alternation-loop-alloc l = length l.lexemes - l.i
