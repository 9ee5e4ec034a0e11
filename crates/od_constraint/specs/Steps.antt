-- A constraint as a row of steps, each operator before its operands.
use Rattle.std.specs.Prelude.{◌≡◌, ℕ, List, [], ◌∷◌, ◌++◌, map}
use Rattle.std.specs.List.{flat_map}
use denote.Ref.{Bor}
use Rattle.od_asked.specs.Expressions.{expression_of}
use Rattle.od_index.specs.Terms.{Term}
use Rattle.od_pattern.specs.declared.pattern.Constraint.{Constraint, Any, Is, Not', And', Or', end_of-Constraint, more_of-Constraint}
use Rattle.od_pattern.specs.declared.pattern.Field.{Field}
use Rattle.od_pattern.specs.declared.pattern.Value.{Value}
use Rattle.od_constraint.specs.declared.hits.Hits.{Hits}
use Rattle.od_constraint.specs.declared.steps.Step.{Step}
use Rattle.od_constraint.specs.declared.steps.Step.TheVariants as step
use Rattle.od_constraint.specs.Hits.{HasHits, asked_field}

-- an operator, or a test
pub data Part : Type 0 where
  any : Part
  test : Field → Value → Part
  not_ : Part
  and_ : Part
  or_ : Part

-- the parts of a constraint, each operator before its operands
unfoldable pub parts : Constraint → List Part
parts Any = any ∷ []
parts (Is field value) = test field value ∷ []
parts (Not' v (more_of-Constraint c end_of-Constraint)) = not_ ∷ parts c
parts (And' v (more_of-Constraint c end_of-Constraint) w (more_of-Constraint d end_of-Constraint)) =
    and_ ∷ (parts c ++ parts d)
parts (Or' v (more_of-Constraint c end_of-Constraint) w (more_of-Constraint d end_of-Constraint)) =
    or_ ∷ (parts c ++ parts d)

-- a step is a part; that of a test has the hits of its value
abbrev pub IsStepOf : List Term → List Hits → Step → Part → Type 0
IsStepOf table hits step.Any any = Unit {0}
IsStepOf table hits (step.Is field place) (test f value) =
    (field ≡ f) × HasHits table hits (asked_field f) value place
IsStepOf table hits step.Not not_ = Unit {0}
IsStepOf table hits step.And and_ = Unit {0}
IsStepOf table hits step.Or or_ = Unit {0}
IsStepOf table hits s p = ⊥

-- a step of some part
abbrev pub IsStep : List Term → List Hits → Step → Type 0
IsStep table hits s = (p : Part) × IsStepOf table hits s p

-- the steps of the first parts, and the parts that are left
abbrev pub AreStepsOf : List Term → List Hits → List Step → List Part → List Part → Type 0
AreStepsOf table hits [] ps rest = ps ≡ rest
AreStepsOf table hits (s ∷ steps) [] rest = ⊥
AreStepsOf table hits (s ∷ steps) (p ∷ ps) rest =
    IsStepOf table hits s p × AreStepsOf table hits steps ps rest

-- the steps of some parts
abbrev pub AreSteps : List Term → List Hits → List Step → Type 0
AreSteps table hits steps = (ps : List Part) × AreStepsOf table hits steps ps []

-- the parts of the constraints that wait, the last of which is the next
abbrev pub waiting : List Constraint → List Part
waiting [] = []
waiting (c ∷ cs) = waiting cs ++ parts c

-- the constraints behind references
abbrev pub lent : List (Bor Constraint) → List Constraint
lent cs = map (λ c. c.now) cs

-- a step of the next part, behind which the rest is left
abbrev pub IsNext : List Term → List Hits → Step → List Part → List Part → Type 0
IsNext table hits s ps rest = (p : Part) × (ps ≡ p ∷ rest) × IsStepOf table hits s p

-- the regular expression of a part, where it has one
abbrev pub part_expressions : Part → List (List ℕ)
part_expressions (test field value) = expression_of value
part_expressions p = []

-- the regular expressions of some parts
abbrev pub parts_expressions : List Part → List (List ℕ)
parts_expressions ps = flat_map part_expressions ps
