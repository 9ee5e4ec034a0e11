use Rattle.std.proofs.Common.{◌≡◌, map, take}
use Rattle.serde_json.specs.View.{view}
use Rattle.od_line.specs.Data.{count}
use Rattle.od_lines.proofs.lines.entry.sizes_value.Given as goal

-- the list has the sizes before the next one
abbrev pub invariant-loop-size : goal.invariant-loop-size
invariant-loop-size l = map view l.list.items ≡ map count (take l.size-index l.sizes)
