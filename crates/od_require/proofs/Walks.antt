-- Steps of a walk over a constraint.
use Rattle.std.proofs.Common.{◌≡◌, ℕ, ◌+◌, ◌≤◌, List, [], ◌∷◌, ◌++◌, refl, ◌∙◌, ap, arith}
use denote.Hole.Carrier.{hidden}
use Rattle.od_need.specs.Needs.{need_constraint}
use Rattle.od_need.specs.declared.need.Need as need
use Rattle.od_need.specs.declared.need.Need.{Need}
use Rattle.od_pattern.specs.Walk.{parts_in}
use Rattle.od_pattern.specs.declared.pattern.Constraint.{Constraint}
use Rattle.od_pattern.specs.declared.pattern.Constraint.TheVariants.{Not, And, Or}
use Rattle.od_pattern.specs.declared.pattern.Constraint.TheBlock.{hidden-the_row-Constraint-0}
use Rattle.od_require.specs.Walk.{around, cost, plugged, total}
use Rattle.od_require.specs.declared.constraints.Frame.{Frame}

pub need_not : (c : Constraint) → need_constraint (Not c) ≡ need.True
unfolding need_constraint hidden hidden-the_row-Constraint-0
need_not c = refl

pub need_and : (a b : Constraint) → need.And (need_constraint a ∷ need_constraint b ∷ []) ≡ need_constraint (And a b)
unfolding need_constraint hidden hidden-the_row-Constraint-0
need_and a b = refl

pub need_or : (a b : Constraint) → need.Or (need_constraint a ∷ need_constraint b ∷ []) ≡ need_constraint (Or a b)
unfolding need_constraint hidden hidden-the_row-Constraint-0
need_or a b = refl

pub plugged_more : (frames : List Frame) (f : Frame) (n : Need) → plugged (frames ++ f ∷ []) n ≡ plugged frames (around f n)
plugged_more [] f n = refl
plugged_more (g ∷ frames) f n = ap (around g) (plugged_more frames f n)

pub total_more : (frames : List Frame) (f : Frame) → total (frames ++ f ∷ []) ≡ total frames + cost f
total_more [] f = omega arith
total_more (g ∷ frames) f = omega (arith, total_more frames f)

pub plugged_step : (frames new : List Frame) (f : Frame) (at left : Constraint) → new ≡ frames ++ f ∷ []
    → around f (need_constraint left) ≡ need_constraint at → plugged new (need_constraint left) ≡ plugged frames (need_constraint at)
plugged_step frames new f at left e h = ap (λ z. plugged z (need_constraint left)) e ∙ plugged_more frames f (need_constraint left) ∙ ap (plugged frames) h

pub total_step : (frames new : List Frame) (f : Frame) (at left : Constraint) (n : ℕ) → new ≡ frames ++ f ∷ []
    → cost f + parts_in left ≤ parts_in at → total frames + parts_in at ≤ n → total new + parts_in left ≤ n
total_step frames new f at left n e h b = let t : total new ≡ total frames + cost f = ap total e ∙ total_more frames f in omega (arith, t, h, b)
