-- The regular expressions in the need of a rule are among those that the rule asks.
use Rattle.std.proofs.Common.{◌≡◌, ℕ, zero, suc, true, false, List, [], ◌∷◌, ◌++◌, map, refl, sym, ◌∙◌, ap, subst, arith}
use Rattle.std.proofs.lemmas.Grind.{flat_map-append}
use Rattle.std.specs.Prelude.{Contains, Option, Some, None}
use Rattle.std.specs.List.{flat_map}
use mathlib.Core.Former.{Count}
use Rattle.od_text.specs.Lists.{Each}
use Rattle.od_text.proofs.Lists.{Each-append, Each-left, Each-right, Each-weaker, Each-flat_map}
use Rattle.od_asked.specs.Asked.{Asked, at_tokens, asked_label, asked_surface, asked_surfaces, asked_path, asked_paths, asked_part, asked_argument, asked_body, asked_rule}
use Rattle.od_asked.specs.Expressions.{expression_of, expressions_in, expressions_at, expressions_of}
use Rattle.od_need.specs.Expressions.{expressions_needed, expressions_of_needs}
use Rattle.od_need.specs.Laws.{ExpressionsAreAsked}
use Rattle.od_need.specs.Needs.{need_value, need_constraint, need_turns, need_surface, need_surfaces, need_label, need_path, need_paths, need_part, need_parts, need_candidate, need_many, need_argument, need_body, need_of}
use Rattle.od_need.specs.declared.need.Need as need
use Rattle.od_need.specs.declared.need.Need.{Need, Row_of-Need, end_of-Need, more_of-Need, items-the_row-Need, items_hidden-the_row-Need-0}
use Rattle.od_pattern.specs.declared.pattern.Constraint.{Constraint, Any, Is, Not', And', Or', end_of-Constraint, more_of-Constraint}
use Rattle.od_pattern.specs.declared.pattern.Field.{Field}
use Rattle.od_pattern.specs.declared.pattern.Surface.{Surface, Row_of-Surface, end_of-Surface, more_of-Surface}
use Rattle.od_pattern.specs.declared.pattern.Surface.TheVariants.{Token, Label, Look, First, Last, Capture'}
use Rattle.od_pattern.specs.declared.pattern.Surface.TheVariants as surface
use Rattle.od_pattern.specs.declared.pattern.Value.{Value}
use Rattle.od_pattern.specs.declared.pattern.Value.TheVariants.{Plain, Regex}
use Rattle.od_pattern.specs.declared.path.Path.{Path, Row_of-Path, end_of-Path, more_of-Path}
use Rattle.od_pattern.specs.declared.path.Path.TheVariants.{Along, Against, Filter}
use Rattle.od_pattern.specs.declared.path.Path.TheVariants as path
use Rattle.od_pattern.specs.declared.rule.Argument.{Argument}
use Rattle.od_pattern.specs.declared.rule.Body.{Body}
use Rattle.od_pattern.specs.declared.rule.Body.TheVariants.{Basic, Event}
use Rattle.od_pattern.specs.declared.rule.HopPart.{HopPart}
use Rattle.od_pattern.specs.declared.rule.Many.{Many}
use Rattle.od_pattern.specs.declared.rule.Many.TheVariants.{One, Optional, All, AllOne}
use Rattle.od_pattern.specs.declared.rule.Rule.{Rule}

-- ## Needs that are built from their parts

-- the row of some needs
abbrev row_of : Need → (n : Count) × Row_of-Need n
row_of (need.And' _ row) = (_, row)
row_of _ = (_, end_of-Need)

expressions-row : (n : _) (row : Row_of-Need n) → expressions_of_needs row ≡ flat_map expressions_needed (items-the_row-Need n row)
unfolding expressions_of_needs
expressions-row n end_of-Need = refl
expressions-row n (more_of-Need x rest) = ap (λ es. expressions_needed x ++ es) (expressions-row _ rest)

pub expressions_and : (ns : List Need) → expressions_needed (need.And ns) ≡ flat_map expressions_needed ns
unfolding expressions_needed
expressions_and ns = let row = row_of (need.And ns) in expressions-row row.0 row.1 ∙ ap (flat_map expressions_needed) (items_hidden-the_row-Need-0 ns)

pub expressions_or : (ns : List Need) → expressions_needed (need.Or ns) ≡ flat_map expressions_needed ns
unfolding expressions_needed
expressions_or ns = let row = row_of (need.And ns) in expressions-row row.0 row.1 ∙ ap (flat_map expressions_needed) (items_hidden-the_row-Need-0 ns)

pub expressions_regex : (field : Field) (e : List ℕ) → expressions_needed (need.Regex field e) ≡ e ∷ []
unfolding expressions_needed
expressions_regex field e = refl

pub expressions_edge : (v : Value) → expressions_needed (need.Edge v) ≡ expression_of v
unfolding expressions_needed
expressions_edge v = refl

-- ## What holds of the expressions asked holds of those needed

module _ (P : List ℕ → Type 0) where
  -- of each expression in a need
  abbrev Fine : Need → Type 0
  Fine n = Each P (expressions_needed n)

  -- of each expression of what is asked
  abbrev Known : List Asked → Type 0
  Known asked = Each P (expressions_of asked)

  fine-true : Fine need.True
  unfolding expressions_needed
  fine-true = tt

  fine-label : (name : List ℕ) → Fine (need.Label name)
  unfolding expressions_needed
  fine-label name = tt

  fine-and : (ns : List Need) → Each Fine ns → Fine (need.And ns)
  fine-and ns h = subst (Each P) (sym (expressions_and ns)) (Each-flat_map P expressions_needed ns h)

  fine-or : (ns : List Need) → Each Fine ns → Fine (need.Or ns)
  fine-or ns h = subst (Each P) (sym (expressions_or ns)) (Each-flat_map P expressions_needed ns h)

  known-left : (xs ys : List Asked) → Known (xs ++ ys) → Known xs
  known-left xs ys h = Each-left P (expressions_of xs) (expressions_of ys) (subst (Each P) (flat_map-append expressions_at xs ys) h)

  known-right : (xs ys : List Asked) → Known (xs ++ ys) → Known ys
  known-right xs ys h = Each-right P (expressions_of xs) (expressions_of ys) (subst (Each P) (flat_map-append expressions_at xs ys) h)

  known-one : (c : Constraint) → Known (at_tokens c ∷ []) → Each P (expressions_in c)
  known-one c h = Each-left P (expressions_in c) [] h

  fine-value : (field : Field) (v : Value) → Each P (expression_of v) → Fine (need_value field v)
  unfolding expressions_needed
  fine-value field (Plain text) h = tt
  fine-value field (Regex text) h = h

  fine-constraint : (c : Constraint) → Each P (expressions_in c) → Fine (need_constraint c)
  unfolding expressions_in need_constraint
  fine-constraint Any h = fine-true
  fine-constraint (Is field v) h = fine-value field v h
  fine-constraint (Not' w (more_of-Constraint c end_of-Constraint)) h = fine-true
  fine-constraint (And' w (more_of-Constraint c end_of-Constraint) u (more_of-Constraint d end_of-Constraint)) h =
      fine-and _ (fine-constraint c (Each-left P (expressions_in c) (expressions_in d) h), (fine-constraint d (Each-right P (expressions_in c) (expressions_in d) h), tt))
  fine-constraint (Or' w (more_of-Constraint c end_of-Constraint) u (more_of-Constraint d end_of-Constraint)) h =
      fine-or _ (fine-constraint c (Each-left P (expressions_in c) (expressions_in d) h), (fine-constraint d (Each-right P (expressions_in c) (expressions_in d) h), tt))

  fine-turns : (least : ℕ) (n : Need) → Fine n → Fine (need_turns least n)
  fine-turns zero n h = fine-true
  fine-turns (suc least) n h = h

  mutual
    unfolding asked_surface asked_surfaces need_surface need_surfaces

    fine-surface : (p : Surface) → Known (asked_surface p) → Fine (need_surface p)
    fine-surface (Token c) h = fine-constraint c (known-one c h)
    fine-surface (Label name) h = fine-label name
    fine-surface (Look ahead true c) h = fine-constraint c (known-one c h)
    fine-surface (Look ahead false c) h = fine-true
    fine-surface First h = fine-true
    fine-surface Last h = fine-true
    fine-surface (surface.Seq' v row) h = fine-and _ (fine-surfaces row h)
    fine-surface (surface.Alt' v row) h = fine-or _ (fine-surfaces row h)
    fine-surface (surface.Repeat' v (more_of-Surface p end_of-Surface) turns) h = fine-turns turns.least (need_surface p) (fine-surface p h)
    fine-surface (Capture' name v (more_of-Surface p end_of-Surface)) h = fine-surface p h

    fine-surfaces : {m : _} (row : Row_of-Surface m) → Known (asked_surfaces row) → Each Fine (need_surfaces row)
    fine-surfaces end_of-Surface h = tt
    fine-surfaces (more_of-Surface p rest) h =
        (fine-surface p (known-left (asked_surface p) (asked_surfaces rest) h), fine-surfaces rest (known-right (asked_surface p) (asked_surfaces rest) h))

  fine-edge : (value : Option Value) → Known (asked_label value) → Fine (need_label value)
  unfolding expressions_needed
  fine-edge None h = tt
  fine-edge (Some v) h = Each-left P (expression_of v) [] h

  mutual
    unfolding asked_path asked_paths need_path need_paths

    fine-path : (p : Path) → Known (asked_path p) → Fine (need_path p)
    fine-path (Along value) h = fine-edge value h
    fine-path (Against value) h = fine-edge value h
    fine-path (Filter c) h = fine-constraint c (known-one c h)
    fine-path (path.Seq' v row) h = fine-and _ (fine-paths row h)
    fine-path (path.Alt' v row) h = fine-or _ (fine-paths row h)
    fine-path (path.Repeat' v (more_of-Path p end_of-Path) least most) h = fine-turns least (need_path p) (fine-path p h)

    fine-paths : {m : _} (row : Row_of-Path m) → Known (asked_paths row) → Each Fine (need_paths row)
    fine-paths end_of-Path h = tt
    fine-paths (more_of-Path p rest) h =
        (fine-path p (known-left (asked_path p) (asked_paths rest) h), fine-paths rest (known-right (asked_path p) (asked_paths rest) h))

  fine-part : (part : HopPart) → Known (asked_part part) → Each Fine (need_part part)
  fine-part part h = (
    fine-path part.path (known-left (asked_path part.path) (asked_surface part.surface) h),
    (fine-surface part.surface (known-right (asked_path part.path) (asked_surface part.surface) h), tt),
  )

  fine-parts : (parts : List HopPart) → Known (flat_map asked_part parts) → Each Fine (flat_map need_part parts)
  fine-parts [] h = tt
  fine-parts (part ∷ parts) h =
      Each-append Fine (need_part part) (flat_map need_part parts)
      (fine-part part (known-left (asked_part part) (flat_map asked_part parts) h))
      (fine-parts parts (known-right (asked_part part) (flat_map asked_part parts) h))

  fine-hop : (first : Need) (parts : List HopPart) → Fine first → Each Fine (flat_map need_part parts) → Fine (need_parts first parts)
  fine-hop first [] h k = h
  fine-hop first (part ∷ parts) h k = fine-and _ (h, k)

  fine-candidate : (label : Option (List ℕ)) (n : Need) → Fine n → Fine (need_candidate label n)
  fine-candidate None n h = h
  fine-candidate (Some label) n h = fine-and _ (h, (fine-label label, tt))

  fine-many : (many : Many) (n : Need) → Fine n → Fine (need_many many n)
  fine-many One n h = h
  fine-many Optional n h = fine-true
  fine-many All n h = fine-true
  fine-many AllOne n h = h

  fine-argument : (a : Argument) → Known (asked_argument a) → Fine (need_argument a)
  fine-argument a h = fine-many a.many (need_candidate a.label (need_path a.path)) (fine-candidate a.label (need_path a.path) (fine-path a.path h))

  fine-arguments : (arguments : List Argument) → Known (flat_map asked_argument arguments) → Each Fine (map need_argument arguments)
  fine-arguments [] h = tt
  fine-arguments (a ∷ arguments) h = (
    fine-argument a (known-left (asked_argument a) (flat_map asked_argument arguments) h),
    fine-arguments arguments (known-right (asked_argument a) (flat_map asked_argument arguments) h),
  )

  fine-body : (body : Body) → Known (asked_body body) → Fine (need_body body)
  fine-body (Basic h) known =
      fine-hop (need_surface h.first) h.rest
      (fine-surface h.first (known-left (asked_surface h.first) (flat_map asked_part h.rest) known))
      (fine-parts h.rest (known-right (asked_surface h.first) (flat_map asked_part h.rest) known))
  fine-body (Event e) known =
      fine-and _ (
        fine-surface e.trigger (known-left (asked_surface e.trigger) (flat_map asked_argument e.arguments) known),
        fine-arguments e.arguments (known-right (asked_surface e.trigger) (flat_map asked_argument e.arguments) known),
      )

  -- what holds of each expression that a rule asks holds of each in its need
  pub each_needed : (r : Rule) → Each P (expressions_of (asked_rule r)) → Each P (expressions_needed (need_of r))
  each_needed r h = fine-body r.body h

-- ## Each expression needed is asked

each-itself : {X : Type 0} (xs : List X) → Each (Contains xs) xs
each-itself [] = tt
each-itself (x ∷ xs) = (
  (0, omega arith, refl),
  Each-weaker (Contains xs) (Contains (x ∷ xs)) (λ z h. (suc h.0, omega (arith, h.1), h.2)) xs (each-itself xs),
)

pub expressions_asked : ExpressionsAreAsked
expressions_asked r = each_needed (Contains (expressions_of (asked_rule r))) r (each-itself (expressions_of (asked_rule r)))
