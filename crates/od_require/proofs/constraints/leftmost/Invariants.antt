use Rattle.std.proofs.Common.{◌≡◌, ◌+◌, ◌≤◌}
use Rattle.od_need.specs.Needs.{need_constraint}
use Rattle.od_pattern.specs.Walk.{parts_in}
use Rattle.od_require.specs.Walk.{plugged, total}
use Rattle.od_require.proofs.constraints.leftmost.Given as goal

abbrev pub invariant-loop-at : goal.invariant-loop-at
invariant-loop-at l = record {
  same : plugged l.frames.items (need_constraint l.at) ≡ plugged l.initial.frames.items (need_constraint l.initial.at);
  less : total l.frames.items + parts_in l.at ≤ total l.initial.frames.items + parts_in l.initial.at;
}
