-- What a walk over a constraint has still to do.
use Rattle.std.specs.Prelude.{ℕ, ◌+◌, List, [], ◌∷◌}
use Rattle.od_need.specs.Needs.{need_constraint}
use Rattle.od_need.specs.declared.need.Need as need
use Rattle.od_need.specs.declared.need.Need.{Need}
use Rattle.od_pattern.specs.Walk.{parts_in}
use Rattle.od_require.specs.declared.constraints.Frame.{Frame}
use Rattle.od_require.specs.declared.constraints.Frame.TheVariants as frame

-- a frame around a need
abbrev pub around : Frame → Need → Need
around (frame.AndRight right) n = need.And (n ∷ need_constraint right.now ∷ [])
around (frame.OrRight right) n = need.Or (n ∷ need_constraint right.now ∷ [])
around (frame.AndLeft left) n = need.And (left ∷ n ∷ [])
around (frame.OrLeft left) n = need.Or (left ∷ n ∷ [])

-- frames around a need, the outermost first
abbrev pub plugged : List Frame → Need → Need
plugged [] n = n
plugged (f ∷ frames) n = around f (plugged frames n)

-- the work that a frame stands for
abbrev pub cost : Frame → ℕ
cost (frame.AndRight right) = 1 + parts_in right.now
cost (frame.OrRight right) = 1 + parts_in right.now
cost (frame.AndLeft left) = 1
cost (frame.OrLeft left) = 1

-- the work that is left
abbrev pub total : List Frame → ℕ
total [] = 0
total (f ∷ frames) = cost f + total frames
