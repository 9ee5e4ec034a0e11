use Rattle.std.proofs.Common.{◌≡◌, ◌++◌, take}
use Rattle.std.specs.List.{flat_map}
use Rattle.od_need.specs.Needs.{need_part}
use Rattle.od_require.proofs.rules.push_parts.Given as goal

abbrev pub invariant-loop-part : goal.invariant-loop-part
invariant-loop-part l = l.needs ≡ l.fn.needs ++ flat_map need_part (take l.part-index l.parts)
