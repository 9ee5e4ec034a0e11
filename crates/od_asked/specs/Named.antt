-- The labels of mentions that patterns and rules name, in the order of their text.
use Rattle.std.specs.Prelude.{ℕ, List, [], ◌∷◌, ◌++◌, Option, None, Some}
use Rattle.std.specs.List.{flat_map}
use Rattle.od_pattern.specs.declared.pattern.Surface.{Surface, Row_of-Surface, end_of-Surface, more_of-Surface}
use Rattle.od_pattern.specs.declared.pattern.Surface.TheVariants.{Token, Label, Look, First, Last, Seq', Alt', Repeat', Capture'}
use Rattle.od_pattern.specs.declared.rule.Body.{Body}
use Rattle.od_pattern.specs.declared.rule.Body.TheVariants.{Basic, Event}
use Rattle.od_pattern.specs.declared.rule.EventRule.{EventRule}
use Rattle.od_pattern.specs.declared.rule.Hop.{Hop}
use Rattle.od_pattern.specs.declared.rule.Rule.{Rule}

unfoldable mutual
  -- the labels of a surface pattern
  pub named_surface : Surface → List (List ℕ)
  named_surface (Token c) = []
  named_surface (Label name) = name ∷ []
  named_surface (Look ahead positive c) = []
  named_surface First = []
  named_surface Last = []
  named_surface (Seq' v row) = named_surfaces row
  named_surface (Alt' v row) = named_surfaces row
  named_surface (Repeat' v (more_of-Surface p end_of-Surface) turns) = named_surface p
  named_surface (Capture' name v (more_of-Surface p end_of-Surface)) = named_surface p

  -- the parts one after another
  pub named_surfaces : {m : _} → Row_of-Surface m → List (List ℕ)
  named_surfaces end_of-Surface = []
  named_surfaces (more_of-Surface p rest) = named_surface p ++ named_surfaces rest

-- the label of an argument, where it has one
abbrev pub named_label : Option (List ℕ) → List (List ℕ)
named_label None = []
named_label (Some label) = label ∷ []

-- the labels of a hop: its paths name none
abbrev pub named_hop : Hop → List (List ℕ)
named_hop h = named_surface h.first ++ flat_map (λ part. named_surface part.surface) h.rest

-- the labels of an event rule
abbrev pub named_event : EventRule → List (List ℕ)
named_event e = named_surface e.trigger ++ flat_map (λ a. named_label a.label) e.arguments

-- the labels of the body of a rule
abbrev pub named_body : Body → List (List ℕ)
named_body (Basic h) = named_hop h
named_body (Event e) = named_event e

-- the labels of a rule: the one of its own mentions is not among them unless it names it
abbrev pub named_rule : Rule → List (List ℕ)
named_rule r = named_body r.body
