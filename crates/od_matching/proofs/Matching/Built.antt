-- What patterns mean that are built from their parts: the rows of a match become lists again.
use Rattle.std.proofs.Common.{◌≡◌, ℕ, suc, false, List, [], ◌∷◌, refl, ◌∙◌, ap}
use Rattle.std.specs.Prelude.{not, ◌&&◌, ◌||◌, Option}
use mathlib.Core.Former.{Count}
use denote.Hole.Carrier.{hidden}
use Rattle.od_asked.specs.Holds.{holds}
use Rattle.od_matching.specs.Matching.Choice.{Relation, Stays, Never, Then, Choose, Either, Named}
use Rattle.od_matching.specs.Matching.First.{Trial, first_never, first_then, first_or, first_named}
use Rattle.od_matching.specs.Matching.Derives.{World, derives, in_order, one_of, first, first_order, first_of, turns_from, first_turns}
use Rattle.od_matching.specs.Matching.Reach.{Set, nodes, reached, reached_on, reached_by, repeated}
use Rattle.od_document.specs.declared.sentence.Sentence.{Sentence}
use Rattle.od_pattern.specs.declared.path.Path as path
use Rattle.od_pattern.specs.declared.path.Path.{Path, Row_of-Path, end_of-Path, more_of-Path, items-the_row-Path, items_hidden-the_row-Path-0}
use Rattle.od_pattern.specs.declared.path.Path.TheBlock.{hidden-the_row-Path-1}
use Rattle.od_pattern.specs.declared.pattern.Turns.{Turns}
use Rattle.od_pattern.specs.declared.pattern.Constraint as constraint
use Rattle.od_pattern.specs.declared.pattern.Constraint.{Constraint}
use Rattle.od_pattern.specs.declared.pattern.Constraint.TheBlock.{hidden-the_row-Constraint-0}
use Rattle.od_pattern.specs.declared.pattern.Surface as surface
use Rattle.od_pattern.specs.declared.pattern.Surface.{Surface, Row_of-Surface, end_of-Surface, more_of-Surface, items-the_row-Surface, items_hidden-the_row-Surface-0}
use Rattle.od_pattern.specs.declared.pattern.Surface.TheBlock.{hidden-the_row-Surface-1}

module _ (s : Sentence) where
  -- constraints from their parts
  pub holds_not : (c : Constraint) (k : ℕ) → holds s (constraint.Not c) k ≡ not (holds s c k)
  unfolding holds hidden hidden-the_row-Constraint-0
  holds_not c k = refl

  pub holds_and : (c d : Constraint) (k : ℕ) → holds s (constraint.And c d) k ≡ (holds s c k && holds s d k)
  unfolding holds hidden hidden-the_row-Constraint-0
  holds_and c d k = refl

  pub holds_or : (c d : Constraint) (k : ℕ) → holds s (constraint.Or c d) k ≡ (holds s c k || holds s d k)
  unfolding holds hidden hidden-the_row-Constraint-0
  holds_or c d k = refl

-- the row of a sequence or an alternation
abbrev pub row_of : Surface → (n : Count) × Row_of-Surface n
row_of (surface.Seq' _ row) = (_, row)
row_of _ = (_, end_of-Surface)

module _ (w : World) where
  -- the parts of a list one after another
  abbrev pub derives_order : List Surface → Relation
  derives_order [] = Stays
  derives_order (p ∷ ps) = Then (derives w p) (derives_order ps)

  -- one of the parts of a list, the first of which has the number k
  abbrev pub derives_one : ℕ → List Surface → Relation
  derives_one k [] = Never
  derives_one k (p ∷ ps) = Either (Choose k (derives w p)) (derives_one (suc k) ps)

  -- the preferred way through the parts of a list one after another
  abbrev pub first_in_order : List Surface → Trial
  first_in_order [] = λ k i. k i
  first_in_order (p ∷ ps) = first_then (first w p) (first_in_order ps)

  -- the first of the parts of a list that has a way
  abbrev pub first_in : List Surface → Trial
  first_in [] = first_never
  first_in (p ∷ ps) = first_or (first w p) (first_in ps)

  -- the parts in a row are those of the list
  in_order-row : (n : _) (row : Row_of-Surface n) → in_order w row ≡ derives_order (items-the_row-Surface n row)
  unfolding in_order
  in_order-row n end_of-Surface = refl
  in_order-row n (more_of-Surface p rest) = ap (Then (derives w p)) (in_order-row _ rest)

  one_of-row : (k : ℕ) (n : _) (row : Row_of-Surface n) → one_of w k row ≡ derives_one k (items-the_row-Surface n row)
  unfolding one_of
  one_of-row k n end_of-Surface = refl
  one_of-row k n (more_of-Surface p rest) = ap (Either (Choose k (derives w p))) (one_of-row (suc k) _ rest)

  first_order-row : (n : _) (row : Row_of-Surface n) → first_order w row ≡ first_in_order (items-the_row-Surface n row)
  unfolding first_order
  first_order-row n end_of-Surface = refl
  first_order-row n (more_of-Surface p rest) = ap (first_then (first w p)) (first_order-row _ rest)

  first_of-row : (n : _) (row : Row_of-Surface n) → first_of w row ≡ first_in (items-the_row-Surface n row)
  unfolding first_of
  first_of-row n end_of-Surface = refl
  first_of-row n (more_of-Surface p rest) = ap (first_or (first w p)) (first_of-row _ rest)

  -- derivations of a pattern from its parts
  pub derives_seq : (ps : List Surface) → derives w (surface.Seq ps) ≡ derives_order ps
  unfolding derives
  derives_seq ps = let row = row_of (surface.Seq ps) in in_order-row row.0 row.1 ∙ ap derives_order (items_hidden-the_row-Surface-0 ps)

  pub derives_alt : (ps : List Surface) → derives w (surface.Alt ps) ≡ derives_one 0 ps
  unfolding derives
  derives_alt ps = let row = row_of (surface.Seq ps) in one_of-row 0 row.0 row.1 ∙ ap (derives_one 0) (items_hidden-the_row-Surface-0 ps)

  pub derives_repeat : (p : Surface) (turns : Turns) → derives w (surface.Repeat p turns) ≡ turns_from turns.lazy (derives w p) turns.least turns.most
  unfolding derives hidden hidden-the_row-Surface-1
  derives_repeat p turns = refl

  pub derives_capture : (name : List ℕ) (p : Surface) → derives w (surface.Capture name p) ≡ Named name (derives w p)
  unfolding derives hidden hidden-the_row-Surface-1
  derives_capture name p = refl

  -- the preferred way from the parts
  pub first_seq : (ps : List Surface) → first w (surface.Seq ps) ≡ first_in_order ps
  unfolding first
  first_seq ps = let row = row_of (surface.Seq ps) in first_order-row row.0 row.1 ∙ ap first_in_order (items_hidden-the_row-Surface-0 ps)

  pub first_alt : (ps : List Surface) → first w (surface.Alt ps) ≡ first_in ps
  unfolding first
  first_alt ps = let row = row_of (surface.Seq ps) in first_of-row row.0 row.1 ∙ ap first_in (items_hidden-the_row-Surface-0 ps)

  pub first_repeat : (p : Surface) (turns : Turns) → first w (surface.Repeat p turns) ≡ first_turns w.length turns.lazy (first w p) turns.least turns.most
  unfolding first hidden hidden-the_row-Surface-1
  first_repeat p turns = refl

  pub first_capture : (name : List ℕ) (p : Surface) → first w (surface.Capture name p) ≡ first_named name (first w p)
  unfolding first hidden hidden-the_row-Surface-1
  first_capture name p = refl

-- the row of a path's sequence or alternation
abbrev pub path_row_of : Path → (n : Count) × Row_of-Path n
path_row_of (path.Seq' _ row) = (_, row)
path_row_of _ = (_, end_of-Path)

module _ (s : Sentence) where
  -- the paths of a list one after another
  abbrev pub reached_order : List Path → Set → Set
  reached_order [] marked b = marked b
  reached_order (p ∷ ps) marked b = reached_order ps (reached s p marked) b

  -- one of the paths of a list
  abbrev pub reached_one : List Path → Set → Set
  reached_one [] marked b = false
  reached_one (p ∷ ps) marked b = reached s p marked b || reached_one ps marked b

  -- the paths in a row are those of the list
  reached_on-row : (n : _) (row : Row_of-Path n) (marked : Set) (b : ℕ) → reached_on s row marked b ≡ reached_order (items-the_row-Path n row) marked b
  unfolding reached_on
  reached_on-row n end_of-Path marked b = refl
  reached_on-row n (more_of-Path p rest) marked b = reached_on-row _ rest (reached s p marked) b

  reached_by-row : (n : _) (row : Row_of-Path n) (marked : Set) (b : ℕ) → reached_by s row marked b ≡ reached_one (items-the_row-Path n row) marked b
  unfolding reached_by
  reached_by-row n end_of-Path marked b = refl
  reached_by-row n (more_of-Path p rest) marked b = ap (λ z. reached s p marked b || z) (reached_by-row _ rest marked b)

  -- the tokens that a path leads to from its parts
  pub reached_seq : (ps : List Path) (marked : Set) (b : ℕ) → reached s (path.Seq ps) marked b ≡ reached_order ps marked b
  unfolding reached
  reached_seq ps marked b = let row = path_row_of (path.Seq ps) in reached_on-row row.0 row.1 marked b ∙ ap (λ z. reached_order z marked b) (items_hidden-the_row-Path-0 ps)

  pub reached_alt : (ps : List Path) (marked : Set) (b : ℕ) → reached s (path.Alt ps) marked b ≡ reached_one ps marked b
  unfolding reached
  reached_alt ps marked b = let row = path_row_of (path.Seq ps) in reached_by-row row.0 row.1 marked b ∙ ap (λ z. reached_one z marked b) (items_hidden-the_row-Path-0 ps)

  pub reached_repeat : (p : Path) (least : ℕ) (most : Option ℕ) (marked : Set) (b : ℕ)
      → reached s (path.Repeat p least most) marked b ≡ repeated (nodes s) (reached s p) least most marked b
  unfolding reached hidden hidden-the_row-Path-1
  reached_repeat p least most marked b = refl
