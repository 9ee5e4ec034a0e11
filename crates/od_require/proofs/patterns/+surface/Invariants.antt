-- The needs of the parts so far.
use Rattle.std.proofs.Common.{◌≡◌, map, take}
use Rattle.od_need.specs.Needs.{need_surface}
use Rattle.od_require.proofs.patterns.+surface.Given as goal

abbrev pub invariant-need_of_surfaces-loop-part : goal.invariant-need_of_surfaces-loop-part
invariant-need_of_surfaces-loop-part l = l.needs ≡ map need_surface (take l.part-index l.parts)
