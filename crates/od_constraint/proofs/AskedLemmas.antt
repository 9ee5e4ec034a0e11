-- The regular expressions of constraints that are made one from another.
use Rattle.std.proofs.Common.{◌≡◌, ℕ, List, [], ◌∷◌, ◌++◌, refl, sym, subst}
use Rattle.std.specs.Prelude.{Contains}
use denote.Hole.Carrier.{hidden}
use Rattle.od_text.specs.Lists.{Each}
use Rattle.od_asked.specs.Expressions.{expressions_in}
use Rattle.od_index.proofs.Members.{Each-from_in}
use Rattle.od_pattern.specs.declared.pattern.Constraint.{Constraint}
use Rattle.od_pattern.specs.declared.pattern.Constraint.TheBlock.{hidden-the_row-Constraint-0}
use Rattle.od_pattern.specs.declared.pattern.Constraint.TheVariants.{Not, And, Or}
use Rattle.od_constraint.specs.Runners.{patterns_of, HaveAll}

pub expressions_not : (c : Constraint) → expressions_in (Not c) ≡ expressions_in c
unfolding expressions_in hidden hidden-the_row-Constraint-0
expressions_not c = refl

pub expressions_and : (c d : Constraint) → expressions_in (And c d) ≡ expressions_in c ++ expressions_in d
unfolding expressions_in hidden hidden-the_row-Constraint-0
expressions_and c d = refl

pub expressions_or : (c d : Constraint) → expressions_in (Or c d) ≡ expressions_in c ++ expressions_in d
unfolding expressions_in hidden hidden-the_row-Constraint-0
expressions_or c d = refl

-- runners of some expressions have them all
pub have_all : {R : Type 0} (pairs : List (List ℕ × R)) (expressions : List (List ℕ)) → patterns_of pairs ≡ expressions → HaveAll pairs expressions
have_all pairs expressions e = Each-from_in (Contains (patterns_of pairs)) expressions (λ t c. subst (λ es. Contains es t) (sym e) c)
