use Rattle.std.proofs.Common.{◌≡◌, ◌+◌, ◌-◌, ◌≤◌, drop, length}
use Rattle.std.specs.List.{prefix_len}
use Rattle.od_lex.specs.Runs.{passes}
use Rattle.od_lex.proofs.scan.run_end.Given as goal

abbrev pub invariant-loop-c : goal.invariant-loop-c
invariant-loop-c l = record {
  within : l.i ≤ length l.chars;
  is : l.from + prefix_len (passes l.fn.run) (drop l.from l.chars) ≡ l.i + prefix_len (passes l.fn.run) (drop l.i l.chars);
}

abbrev pub decreases-loop-c : goal.decreases-loop-c
decreases-loop-c l = length l.chars - l.i
