-- The needs of the parts so far.
use Rattle.std.proofs.Common.{◌≡◌, map, take}
use Rattle.od_need.specs.Needs.{need_path}
use Rattle.od_require.proofs.patterns.+path.Given as goal

abbrev pub invariant-need_of_paths-loop-part : goal.invariant-need_of_paths-loop-part
invariant-need_of_paths-loop-part l = l.needs ≡ map need_path (take l.part-index l.parts)
