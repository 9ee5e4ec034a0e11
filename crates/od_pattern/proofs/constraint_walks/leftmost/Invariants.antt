use Rattle.std.proofs.Common.{◌≡◌, ◌+◌, ◌≤◌}
use Rattle.od_pattern.specs.Walk.{plugged, total, parts_in}
use Rattle.od_pattern.proofs.constraint_walks.leftmost.Given as goal

abbrev pub invariant-loop-at : goal.invariant-loop-at
invariant-loop-at l = record {
  same : plugged l.frames.items l.at ≡ plugged l.initial.frames.items l.initial.at;
  less : total l.frames.items + parts_in l.at ≤ total l.initial.frames.items + parts_in l.initial.at;
}
