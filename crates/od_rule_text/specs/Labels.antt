-- The labels that a rule names, in the order of its text: those behind `@`, and those of arguments.
use Rattle.std.specs.Prelude.{ℕ, List, [], ◌∷◌, ◌++◌}
use Rattle.std.specs.List.{flat_map}
use Rattle.std.specs.Option.{option_to_list}
use Rattle.od_pattern.specs.declared.pattern.Surface.{Surface, Row_of-Surface, end_of-Surface, more_of-Surface}
use Rattle.od_pattern.specs.declared.pattern.Surface.TheVariants.{Token, Label, Look, First, Last, Seq', Alt', Repeat', Capture'}
use Rattle.od_pattern.specs.declared.rule.Body.{Body}
use Rattle.od_pattern.specs.declared.rule.Body.TheVariants.{Basic, Event}

unfoldable mutual
  -- the labels of a surface
  pub surface_labels : Surface → List (List ℕ)
  surface_labels (Token c) = []
  surface_labels (Label name) = name ∷ []
  surface_labels (Look ahead positive c) = []
  surface_labels First = []
  surface_labels Last = []
  surface_labels (Seq' s parts) = parts_labels parts
  surface_labels (Alt' s parts) = parts_labels parts
  surface_labels (Repeat' s part turns) = parts_labels part
  surface_labels (Capture' name s part) = parts_labels part

  -- the labels of the parts of a surface
  pub parts_labels : {n : _} → Row_of-Surface n → List (List ℕ)
  parts_labels end_of-Surface = []
  parts_labels (more_of-Surface part more) = surface_labels part ++ parts_labels more

-- the labels of a rule; its paths name none
abbrev pub body_labels : Body → List (List ℕ)
body_labels (Basic hop) =
    surface_labels hop.first ++ flat_map (λ part. surface_labels part.surface) hop.rest
body_labels (Event event) =
    surface_labels event.trigger ++ flat_map (λ a. option_to_list a.label) event.arguments
