-- The regular expressions of a rule are those of what it asks of a sentence.
use Rattle.std.proofs.Common.{◌≡◌, ℕ, List, [], ◌∷◌, ◌++◌, Option, Some, None, refl, sym, ◌∙◌, ap, append-nil}
use Rattle.std.specs.List.{flat_map}
use Rattle.std.proofs.lemmas.List.Concat.{flat_map-append, flat_map-cons}
use Rattle.od_pattern.specs.declared.pattern.Value.{Value}
use Rattle.od_pattern.specs.declared.pattern.Value.TheVariants as value
use Rattle.od_pattern.specs.declared.pattern.Constraint.{Constraint, end_of-Constraint, more_of-Constraint}
use Rattle.od_pattern.specs.declared.pattern.Constraint.TheVariants.{Any, Is, Not', And', Or'}
use Rattle.od_pattern.specs.declared.pattern.Surface.{Surface, Row_of-Surface, end_of-Surface, more_of-Surface}
use Rattle.od_pattern.specs.declared.pattern.Surface.TheVariants.{Token, Label, Look, First, Last, Seq', Alt', Repeat', Capture'}
use Rattle.od_pattern.specs.declared.path.Path.{Path, Row_of-Path, end_of-Path, more_of-Path}
use Rattle.od_pattern.specs.declared.path.Path.TheVariants.{Along, Against, Filter}
use Rattle.od_pattern.specs.declared.path.Path.TheVariants as path
use Rattle.od_pattern.specs.declared.rule.Argument.{Argument}
use Rattle.od_pattern.specs.declared.rule.HopPart.{HopPart}
use Rattle.od_pattern.specs.declared.rule.Body.TheVariants.{Basic, Event}
use Rattle.od_asked.specs.Asked.{Asked, at_tokens, at_edges, asked_label, asked_surface, asked_surfaces, asked_path, asked_paths, asked_part, asked_argument}
use Rattle.od_asked.specs.Expressions.{expression_of, expressions_in, expressions_at, expressions_of}
use Rattle.od_rule_text.specs.Expressions.{value_expressions, step_expressions, constraint_expressions, surface_expressions, parts_expressions, path_expressions, steps_expressions, part_expressions}
use Rattle.od_grammars.specs.SameExpressions.{ExpressionsAreAsked}

value_same : (v : Value) → value_expressions v ≡ expression_of v
value_same (value.Plain text) = refl
value_same (value.Regex text) = refl

constraint_same : (c : Constraint) → constraint_expressions c ≡ expressions_in c
unfolding constraint_expressions expressions_in
constraint_same Any = refl
constraint_same (Is field v) = value_same v
constraint_same (Not' s (more_of-Constraint c end_of-Constraint)) = append-nil (constraint_expressions c) ∙ constraint_same c
constraint_same (And' s (more_of-Constraint c end_of-Constraint) t (more_of-Constraint d end_of-Constraint)) =
    ap (λ z. z ++ (constraint_expressions d ++ [])) (append-nil (constraint_expressions c) ∙ constraint_same c)
    ∙ ap (λ z. expressions_in c ++ z) (append-nil (constraint_expressions d) ∙ constraint_same d)
constraint_same (Or' s (more_of-Constraint c end_of-Constraint) t (more_of-Constraint d end_of-Constraint)) =
    ap (λ z. z ++ (constraint_expressions d ++ [])) (append-nil (constraint_expressions c) ∙ constraint_same c)
    ∙ ap (λ z. expressions_in c ++ z) (append-nil (constraint_expressions d) ∙ constraint_same d)

-- one thing asked
alone : (a : Asked) → expressions_at a ≡ expressions_of (a ∷ [])
alone a = sym (append-nil (expressions_at a)) ∙ sym (flat_map-cons expressions_at a [])

token_same : (c : Constraint) → constraint_expressions c ≡ expressions_of (at_tokens c ∷ [])
token_same c = constraint_same c ∙ alone (at_tokens c)

step_same : (v : Option Value) → step_expressions v ≡ expressions_of (asked_label v)
step_same None = refl
step_same (Some v) = value_same v ∙ alone (at_edges v)

-- one list of things asked behind another
both : (a b : List (List ℕ)) (xs ys : List Asked) → a ≡ expressions_of xs → b ≡ expressions_of ys → a ++ b ≡ expressions_of (xs ++ ys)
both a b xs ys e f = ap (λ z. z ++ b) e ∙ ap (λ z. expressions_of xs ++ z) f ∙ sym (flat_map-append expressions_at xs ys)

mutual
  unfolding surface_expressions asked_surface

  surface_same : (p : Surface) → surface_expressions p ≡ expressions_of (asked_surface p)
  surface_same (Token c) = token_same c
  surface_same (Label name) = refl
  surface_same (Look ahead positive c) = token_same c
  surface_same First = refl
  surface_same Last = refl
  surface_same (Seq' s row) = surfaces_same row
  surface_same (Alt' s row) = surfaces_same row
  surface_same (Repeat' s (more_of-Surface p end_of-Surface) turns) = append-nil (surface_expressions p) ∙ surface_same p
  surface_same (Capture' name s (more_of-Surface p end_of-Surface)) = append-nil (surface_expressions p) ∙ surface_same p

  surfaces_same : {n : _} → (row : Row_of-Surface n) → parts_expressions row ≡ expressions_of (asked_surfaces row)
  surfaces_same end_of-Surface = refl
  surfaces_same (more_of-Surface p row) = both (surface_expressions p) (parts_expressions row) (asked_surface p) (asked_surfaces row) (surface_same p) (surfaces_same row)

mutual
  unfolding path_expressions asked_path

  path_same : (p : Path) → path_expressions p ≡ expressions_of (asked_path p)
  path_same (Along v) = step_same v
  path_same (Against v) = step_same v
  path_same (Filter c) = token_same c
  path_same (path.Seq' s row) = paths_same row
  path_same (path.Alt' s row) = paths_same row
  path_same (path.Repeat' s (more_of-Path p end_of-Path) least most) = append-nil (path_expressions p) ∙ path_same p

  paths_same : {n : _} → (row : Row_of-Path n) → steps_expressions row ≡ expressions_of (asked_paths row)
  paths_same end_of-Path = refl
  paths_same (more_of-Path p row) = both (path_expressions p) (steps_expressions row) (asked_path p) (asked_paths row) (path_same p) (paths_same row)

-- the things that several parts ask
each_same : {X : Type 0} → (f : X → List (List ℕ)) (g : X → List Asked) → ((x : X) → f x ≡ expressions_of (g x)) → (xs : List X) → flat_map f xs ≡ expressions_of (flat_map g xs)
each_same f g h [] = refl
each_same f g h (x ∷ xs) =
    flat_map-cons f x xs ∙ both (f x) (flat_map f xs) (g x) (flat_map g xs) (h x) (each_same f g h xs) ∙ ap expressions_of (sym (flat_map-cons g x xs))

part_same : (p : HopPart) → part_expressions p ≡ expressions_of (asked_part p)
part_same p = both (path_expressions p.path) (surface_expressions p.surface) (asked_path p.path) (asked_surface p.surface) (path_same p.path) (surface_same p.surface)

pub expressions_are_asked : ExpressionsAreAsked
expressions_are_asked (Basic hop) =
    both (surface_expressions hop.first) (flat_map part_expressions hop.rest) (asked_surface hop.first) (flat_map asked_part hop.rest) (surface_same hop.first)
    (each_same part_expressions asked_part part_same hop.rest)
expressions_are_asked (Event event) =
    both (surface_expressions event.trigger) (flat_map (λ (a : Argument). path_expressions a.path) event.arguments) (asked_surface event.trigger) (flat_map asked_argument event.arguments)
    (surface_same event.trigger)
    (each_same (λ (a : Argument). path_expressions a.path) asked_argument (λ a. path_same a.path) event.arguments)
