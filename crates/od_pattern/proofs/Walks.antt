-- Steps of a copy of a constraint.
use Rattle.std.proofs.Common.{◌≡◌, ℕ, ◌+◌, ◌≤◌, List, [], ◌∷◌, ◌++◌, refl, ◌∙◌, ap, arith}
use Rattle.od_pattern.specs.declared.pattern.Constraint.{Constraint, end_of-Constraint, more_of-Constraint}
use Rattle.od_pattern.specs.declared.pattern.Constraint.TheVariants.{Not, And, Or, Not', And', Or'}
use Rattle.od_pattern.specs.declared.constraint_walks.Frame.{Frame}
use Rattle.od_pattern.specs.Walk.{parts_in, around, plugged, cost, total}

pub parts_in_not : (c : Constraint) → parts_in (Not c) ≡ 1 + parts_in c
unfolding Rattle.od_pattern.specs.declared.pattern.Constraint.TheBlock.hidden-the_row-Constraint-0 denote.Hole.Carrier.hidden
parts_in_not c = refl

pub parts_in_and : (a b : Constraint) → parts_in (And a b) ≡ 2 + parts_in a + parts_in b
unfolding Rattle.od_pattern.specs.declared.pattern.Constraint.TheBlock.hidden-the_row-Constraint-0 denote.Hole.Carrier.hidden
parts_in_and a b = refl

pub parts_in_or : (a b : Constraint) → parts_in (Or a b) ≡ 2 + parts_in a + parts_in b
unfolding Rattle.od_pattern.specs.declared.pattern.Constraint.TheBlock.hidden-the_row-Constraint-0 denote.Hole.Carrier.hidden
parts_in_or a b = refl

pub plugged_more : (frames : List Frame) (f : Frame) (c : Constraint) → plugged (frames ++ f ∷ []) c ≡ plugged frames (around f c)
plugged_more [] f c = refl
plugged_more (g ∷ frames) f c = ap (around g) (plugged_more frames f c)

pub total_more : (frames : List Frame) (f : Frame) → total (frames ++ f ∷ []) ≡ total frames + cost f
total_more [] f = omega arith
total_more (g ∷ frames) f = omega (arith, total_more frames f)

pub plugged_step : (frames new : List Frame) (f : Frame) (at left : Constraint) → new ≡ frames ++ f ∷ [] → around f left ≡ at → plugged new left ≡ plugged frames at
plugged_step frames new f at left e h = ap (λ z. plugged z left) e ∙ plugged_more frames f left ∙ ap (plugged frames) h

pub total_step : (frames new : List Frame) (f : Frame) (at left : Constraint) (n : ℕ) → new ≡ frames ++ f ∷ [] → cost f + parts_in left ≤ parts_in at → total frames + parts_in at ≤ n → total new + parts_in left ≤ n
total_step frames new f at left n e h b = let t : total new ≡ total frames + cost f = ap total e ∙ total_more frames f in omega (arith, t, h, b)

pub parts_of_and : (at left right : Constraint) → at ≡ And left right → 1 + parts_in right + parts_in left ≤ parts_in at
parts_of_and at left right e = let w : parts_in at ≡ 2 + parts_in left + parts_in right = ap parts_in e ∙ parts_in_and left right in omega (arith, w)

pub parts_of_or : (at left right : Constraint) → at ≡ Or left right → 1 + parts_in right + parts_in left ≤ parts_in at
parts_of_or at left right e = let w : parts_in at ≡ 2 + parts_in left + parts_in right = ap parts_in e ∙ parts_in_or left right in omega (arith, w)

first_of : Constraint → Constraint → Constraint
first_of d (Not' s (more_of-Constraint c end_of-Constraint)) = c
first_of d (And' s (more_of-Constraint a end_of-Constraint) q (more_of-Constraint b end_of-Constraint)) = a
first_of d (Or' s (more_of-Constraint a end_of-Constraint) q (more_of-Constraint b end_of-Constraint)) = a
first_of d c = d

second_of : Constraint → Constraint → Constraint
second_of d (And' s (more_of-Constraint a end_of-Constraint) q (more_of-Constraint b end_of-Constraint)) = b
second_of d (Or' s (more_of-Constraint a end_of-Constraint) q (more_of-Constraint b end_of-Constraint)) = b
second_of d c = d

-- constraints of one form are the same where their parts are
pub not_same : (a b : Constraint) → Not a ≡ Not b → a ≡ b
unfolding Rattle.od_pattern.specs.declared.pattern.Constraint.TheBlock.hidden-the_row-Constraint-0 denote.Hole.Carrier.hidden first_of
not_same a b e = ap (first_of a) e

pub and_same : (a b c d : Constraint) → And a b ≡ And c d → (a ≡ c) × (b ≡ d)
unfolding Rattle.od_pattern.specs.declared.pattern.Constraint.TheBlock.hidden-the_row-Constraint-0 denote.Hole.Carrier.hidden first_of second_of
and_same a b c d e = (ap (first_of a) e, ap (second_of b) e)

pub or_same : (a b c d : Constraint) → Or a b ≡ Or c d → (a ≡ c) × (b ≡ d)
unfolding Rattle.od_pattern.specs.declared.pattern.Constraint.TheBlock.hidden-the_row-Constraint-0 denote.Hole.Carrier.hidden first_of second_of
or_same a b c d e = (ap (first_of a) e, ap (second_of b) e)
