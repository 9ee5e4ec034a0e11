-- What a copy of a constraint has still to do.
use Rattle.std.specs.Prelude.{ℕ, ◌+◌, List, [], ◌∷◌}
use Rattle.od_pattern.specs.declared.pattern.Constraint.{Constraint, end_of-Constraint, more_of-Constraint}
use Rattle.od_pattern.specs.declared.pattern.Constraint.TheVariants.{Any, Is, Not', And', Or'}
use Rattle.od_pattern.specs.declared.pattern.Constraint.TheVariants as constraint
use Rattle.od_pattern.specs.declared.constraint_walks.Frame.{Frame}
use Rattle.od_pattern.specs.declared.constraint_walks.Frame.TheVariants as frame

-- how many parts a constraint has
abbrev pub parts_in : Constraint → ℕ
parts_in Any = 1
parts_in (Is f v) = 1
parts_in (Not' s (more_of-Constraint c end_of-Constraint)) = 1 + parts_in c
parts_in (And' s (more_of-Constraint a end_of-Constraint) q (more_of-Constraint b end_of-Constraint)) = 2 + parts_in a + parts_in b
parts_in (Or' s (more_of-Constraint a end_of-Constraint) q (more_of-Constraint b end_of-Constraint)) = 2 + parts_in a + parts_in b

-- a frame around a constraint
abbrev pub around : Frame → Constraint → Constraint
around frame.Not c = constraint.Not c
around (frame.AndRight right) c = constraint.And c right.now
around (frame.OrRight right) c = constraint.Or c right.now
around (frame.AndLeft left) c = constraint.And left c
around (frame.OrLeft left) c = constraint.Or left c

-- frames around a constraint, the outermost first
abbrev pub plugged : List Frame → Constraint → Constraint
plugged [] c = c
plugged (f ∷ frames) c = around f (plugged frames c)

-- the work that a frame stands for
abbrev pub cost : Frame → ℕ
cost frame.Not = 1
cost (frame.AndRight right) = 1 + parts_in right.now
cost (frame.OrRight right) = 1 + parts_in right.now
cost (frame.AndLeft left) = 1
cost (frame.OrLeft left) = 1

-- the work that is left
abbrev pub total : List Frame → ℕ
total [] = 0
total (f ∷ frames) = cost f + total frames
