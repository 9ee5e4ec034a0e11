use Rattle.std.proofs.Common.{◌≡◌, ◌+◌, ◌≤◌, length}
use Rattle.od_order.specs.Lines.{whole_lines}
use Rattle.od_order.specs.Scripts.{script_after, script_lines, nothing_said}
use Rattle.od_script.proofs.script.read_script.Given as goal

abbrev pub invariant-loop-line : goal.invariant-loop-line
invariant-loop-line l = record {
  left : script_after nothing_said (script_lines 1 0 (whole_lines l.fn.bytes)) ≡ script_after l.reader (script_lines l.number 0 (whole_lines l.rest));
  few : l.number + length l.rest ≤ length l.fn.bytes + 1;
}

abbrev pub decreases-loop-line : goal.decreases-loop-line
decreases-loop-line l = length l.rest
