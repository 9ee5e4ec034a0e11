-- The regular expressions of rules, in the order of the text, and where each first appears.
use Rattle.std.specs.Prelude.{ℕ, ◌+◌, List, [], ◌∷◌, ◌++◌, map, if◌then◌else◌, Option, None, Some}
use Rattle.std.specs.List.{flat_map}
use Rattle.od_pattern.specs.declared.pattern.Value.{Value}
use Rattle.od_pattern.specs.declared.pattern.Value.TheVariants as value
use Rattle.od_pattern.specs.declared.pattern.Constraint.{Constraint, Row_of-Constraint, end_of-Constraint, more_of-Constraint}
use Rattle.od_pattern.specs.declared.pattern.Constraint.TheVariants.{Any, Is, Not', And', Or'}
use Rattle.od_pattern.specs.declared.pattern.Surface.{Surface, Row_of-Surface, end_of-Surface, more_of-Surface}
use Rattle.od_pattern.specs.declared.pattern.Surface.TheVariants.{Token, Label, Look, First, Last, Seq', Alt', Repeat', Capture'}
use Rattle.od_pattern.specs.declared.path.Path.{Path, Row_of-Path, end_of-Path, more_of-Path}
use Rattle.od_pattern.specs.declared.path.Path.TheVariants.{Along, Against, Filter}
use Rattle.od_pattern.specs.declared.path.Path.TheVariants as path
use Rattle.od_pattern.specs.declared.rule.HopPart.{HopPart}
use Rattle.od_pattern.specs.declared.rule.Rule.{Rule}
use Rattle.od_pattern.specs.declared.rule.Body.{Body}
use Rattle.od_pattern.specs.declared.rule.Body.TheVariants.{Basic, Event}
use Rattle.od_rule_text.specs.Texts.{is_among}

-- ## Of one rule

-- of a value
abbrev pub value_expressions : Value → List (List ℕ)
value_expressions (value.Plain text) = []
value_expressions (value.Regex text) = text ∷ []

-- of a step of a path, which may have a value
abbrev pub step_expressions : Option Value → List (List ℕ)
step_expressions None = []
step_expressions (Some v) = value_expressions v

unfoldable mutual
  -- of a constraint
  pub constraint_expressions : Constraint → List (List ℕ)
  constraint_expressions Any = []
  constraint_expressions (Is field v) = value_expressions v
  constraint_expressions (Not' s part) = operand_expressions part
  constraint_expressions (And' s left t right) = operand_expressions left ++ operand_expressions right
  constraint_expressions (Or' s left t right) = operand_expressions left ++ operand_expressions right

  -- of the one operand that a row holds
  pub operand_expressions : {n : _} → Row_of-Constraint n → List (List ℕ)
  operand_expressions end_of-Constraint = []
  operand_expressions (more_of-Constraint c more) = constraint_expressions c ++ operand_expressions more

unfoldable mutual
  -- of a surface
  pub surface_expressions : Surface → List (List ℕ)
  surface_expressions (Token c) = constraint_expressions c
  surface_expressions (Label name) = []
  surface_expressions (Look ahead positive c) = constraint_expressions c
  surface_expressions First = []
  surface_expressions Last = []
  surface_expressions (Seq' s parts) = parts_expressions parts
  surface_expressions (Alt' s parts) = parts_expressions parts
  surface_expressions (Repeat' s part turns) = parts_expressions part
  surface_expressions (Capture' name s part) = parts_expressions part

  -- of the parts of a surface
  pub parts_expressions : {n : _} → Row_of-Surface n → List (List ℕ)
  parts_expressions end_of-Surface = []
  parts_expressions (more_of-Surface part more) = surface_expressions part ++ parts_expressions more

unfoldable mutual
  -- of a path
  pub path_expressions : Path → List (List ℕ)
  path_expressions (Along v) = step_expressions v
  path_expressions (Against v) = step_expressions v
  path_expressions (Filter c) = constraint_expressions c
  path_expressions (path.Seq' s steps) = steps_expressions steps
  path_expressions (path.Alt' s steps) = steps_expressions steps
  path_expressions (path.Repeat' s step least most) = steps_expressions step

  -- of the steps of a path
  pub steps_expressions : {n : _} → Row_of-Path n → List (List ℕ)
  steps_expressions end_of-Path = []
  steps_expressions (more_of-Path step more) = path_expressions step ++ steps_expressions more

-- of a further part of a pattern: its path stands before its surface
abbrev pub part_expressions : HopPart → List (List ℕ)
part_expressions part = path_expressions part.path ++ surface_expressions part.surface

-- of a rule, in the order of its text; of an event the trigger first, then the arguments
abbrev pub body_expressions : Body → List (List ℕ)
body_expressions (Basic hop) = surface_expressions hop.first ++ flat_map part_expressions hop.rest
body_expressions (Event event) =
    surface_expressions event.trigger ++ flat_map (λ a. path_expressions a.path) event.arguments

-- ## Of several rules

-- an expression, and the number of the rule in which it appears
pub record Appearance : Type 0 where
  pub rule : ℕ
  pub expression : List ℕ

-- the expressions of the rule of this number
abbrev pub appearances_in : (n : ℕ) → List (List ℕ) → List Appearance
appearances_in n expressions = map (λ x. record { rule = n; expression = x }) expressions

-- those whose expression is neither among the ones seen before nor that of an earlier one
abbrev pub first_of_each : (seen : List (List ℕ)) → List Appearance → List Appearance
first_of_each seen [] = []
first_of_each seen (a ∷ more) =
    if is_among seen a.expression then first_of_each seen more else
    a ∷ first_of_each (seen ++ a.expression ∷ []) more

-- `expressions_in` gives the expressions of a rule's body in the order of its text
module _ (expressions_in : Body → List (List ℕ)) where
  -- all of them in the order of the text; the first of the rules has the number n
  abbrev pub appearances : (n : ℕ) → List Rule → List Appearance
  appearances n [] = []
  appearances n (rule ∷ more) = appearances_in n (expressions_in rule.body) ++ appearances (n + 1) more

  -- the different expressions of rules, each where it first appears
  abbrev pub first_appearances : List Rule → List Appearance
  first_appearances rules = first_of_each [] (appearances 1 rules)

  -- the different expressions of rules by first appearance
  abbrev pub expressions_of : List Rule → List (List ℕ)
  expressions_of rules = map (λ a. a.expression) (first_appearances rules)
