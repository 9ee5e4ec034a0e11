-- What patterns, paths and rules ask of a sentence, in the order of their text.
use Rattle.std.specs.Prelude.{List, [], ◌∷◌, ◌++◌, Option, None, Some}
use Rattle.std.specs.List.{flat_map}
use Rattle.od_pattern.specs.declared.pattern.Constraint.{Constraint}
use Rattle.od_pattern.specs.declared.pattern.Surface.{Surface, Row_of-Surface, end_of-Surface, more_of-Surface}
use Rattle.od_pattern.specs.declared.pattern.Surface.TheVariants.{Token, Label, Look, First, Last, Capture'}
use Rattle.od_pattern.specs.declared.pattern.Surface.TheVariants as surface
use Rattle.od_pattern.specs.declared.pattern.Value.{Value}
use Rattle.od_pattern.specs.declared.path.Path.{Path, Row_of-Path, end_of-Path, more_of-Path}
use Rattle.od_pattern.specs.declared.path.Path.TheVariants.{Along, Against, Filter}
use Rattle.od_pattern.specs.declared.path.Path.TheVariants as path
use Rattle.od_pattern.specs.declared.rule.Argument.{Argument}
use Rattle.od_pattern.specs.declared.rule.Body.{Body}
use Rattle.od_pattern.specs.declared.rule.Body.TheVariants.{Basic, Event}
use Rattle.od_pattern.specs.declared.rule.EventRule.{EventRule}
use Rattle.od_pattern.specs.declared.rule.Hop.{Hop}
use Rattle.od_pattern.specs.declared.rule.HopPart.{HopPart}
use Rattle.od_pattern.specs.declared.rule.Rule.{Rule}

-- a constraint, asked at the tokens, or a value, asked of the labels of the edges
pub data Asked : Type 0 where
  at_tokens : Constraint → Asked
  at_edges : Value → Asked

-- what a step asks: nothing where any label will do
abbrev pub asked_label : Option Value → List Asked
asked_label None = []
asked_label (Some value) = at_edges value ∷ []

unfoldable mutual
  -- what a surface pattern asks; a repeat asks no more than its body
  pub asked_surface : Surface → List Asked
  asked_surface (Token c) = at_tokens c ∷ []
  asked_surface (Label name) = []
  asked_surface (Look ahead positive c) = at_tokens c ∷ []
  asked_surface First = []
  asked_surface Last = []
  asked_surface (surface.Seq' v row) = asked_surfaces row
  asked_surface (surface.Alt' v row) = asked_surfaces row
  asked_surface (surface.Repeat' v (more_of-Surface p end_of-Surface) turns) = asked_surface p
  asked_surface (Capture' name v (more_of-Surface p end_of-Surface)) = asked_surface p

  -- the parts one after another
  pub asked_surfaces : {m : _} → Row_of-Surface m → List Asked
  asked_surfaces end_of-Surface = []
  asked_surfaces (more_of-Surface p rest) = asked_surface p ++ asked_surfaces rest

unfoldable mutual
  -- what a path asks
  pub asked_path : Path → List Asked
  asked_path (Along value) = asked_label value
  asked_path (Against value) = asked_label value
  asked_path (Filter c) = at_tokens c ∷ []
  asked_path (path.Seq' v row) = asked_paths row
  asked_path (path.Alt' v row) = asked_paths row
  asked_path (path.Repeat' v (more_of-Path p end_of-Path) least most) = asked_path p

  -- the paths one after another
  pub asked_paths : {m : _} → Row_of-Path m → List Asked
  asked_paths end_of-Path = []
  asked_paths (more_of-Path p rest) = asked_path p ++ asked_paths rest

-- what a further part of a hop asks: its path, and then its surface
abbrev pub asked_part : HopPart → List Asked
asked_part part = asked_path part.path ++ asked_surface part.surface

-- what a hop asks
abbrev pub asked_hop : Hop → List Asked
asked_hop h = asked_surface h.first ++ flat_map asked_part h.rest

-- what an argument asks
abbrev pub asked_argument : Argument → List Asked
asked_argument a = asked_path a.path

-- what an event rule asks: its trigger, and then its arguments
abbrev pub asked_event : EventRule → List Asked
asked_event e = asked_surface e.trigger ++ flat_map asked_argument e.arguments

-- what the body of a rule asks
abbrev pub asked_body : Body → List Asked
asked_body (Basic h) = asked_hop h
asked_body (Event e) = asked_event e

-- what a rule asks
abbrev pub asked_rule : Rule → List Asked
asked_rule r = asked_body r.body
