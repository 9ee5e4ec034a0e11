use Rattle.std.proofs.Common.{◌≡◌, ◌-◌, ◌≤◌, drop, length}
use Rattle.od_syntax.specs.Events.{pieces}
use Rattle.od_event_text.proofs.head.behind_white.Given as goal

abbrev pub invariant-loop-c : goal.invariant-loop-c
invariant-loop-c l = record {
  within : l.i ≤ length l.chars;
  same : pieces (drop l.from l.chars) ≡ pieces (drop l.i l.chars);
}

abbrev pub decreases-loop-c : goal.decreases-loop-c
decreases-loop-c l = length l.chars - l.i
