-- The needs of patterns that are built from their parts.
use Rattle.std.proofs.Common.{◌≡◌, ℕ, List, ◌∷◌, map, refl, ◌∙◌, ap}
use Rattle.std.specs.Prelude.{Option}
use mathlib.Core.Former.{Count}
use denote.Hole.Carrier.{hidden}
use Rattle.od_need.specs.Needs.{need_surface, need_surfaces, need_path, need_paths, need_turns}
use Rattle.od_need.specs.declared.need.Need as need
use Rattle.od_pattern.specs.declared.path.Path as path
use Rattle.od_pattern.specs.declared.path.Path.{Path, Row_of-Path, end_of-Path, more_of-Path, items-the_row-Path, items_hidden-the_row-Path-0}
use Rattle.od_pattern.specs.declared.path.Path.TheBlock.{hidden-the_row-Path-1}
use Rattle.od_pattern.specs.declared.pattern.Turns.{Turns}
use Rattle.od_pattern.specs.declared.pattern.Surface as surface
use Rattle.od_pattern.specs.declared.pattern.Surface.{Surface, Row_of-Surface, end_of-Surface, more_of-Surface, items-the_row-Surface, items_hidden-the_row-Surface-0}
use Rattle.od_pattern.specs.declared.pattern.Surface.TheBlock.{hidden-the_row-Surface-1}

-- the row of a sequence or an alternation
abbrev row_of : Surface → (n : Count) × Row_of-Surface n
row_of (surface.Seq' _ row) = (_, row)
row_of _ = (_, end_of-Surface)

abbrev path_row_of : Path → (n : Count) × Row_of-Path n
path_row_of (path.Seq' _ row) = (_, row)
path_row_of _ = (_, end_of-Path)

-- the parts in a row are those of the list
needs-row : (n : _) (row : Row_of-Surface n) → need_surfaces row ≡ map need_surface (items-the_row-Surface n row)
unfolding need_surfaces
needs-row n end_of-Surface = refl
needs-row n (more_of-Surface p rest) = ap (λ z. need_surface p ∷ z) (needs-row _ rest)

needs-path_row : (n : _) (row : Row_of-Path n) → need_paths row ≡ map need_path (items-the_row-Path n row)
unfolding need_paths
needs-path_row n end_of-Path = refl
needs-path_row n (more_of-Path p rest) = ap (λ z. need_path p ∷ z) (needs-path_row _ rest)

pub need_seq : (ps : List Surface) → need_surface (surface.Seq ps) ≡ need.And (map need_surface ps)
unfolding need_surface
need_seq ps = let row = row_of (surface.Seq ps) in ap need.And (needs-row row.0 row.1 ∙ ap (map need_surface) (items_hidden-the_row-Surface-0 ps))

pub need_alt : (ps : List Surface) → need_surface (surface.Alt ps) ≡ need.Or (map need_surface ps)
unfolding need_surface
need_alt ps = let row = row_of (surface.Seq ps) in ap need.Or (needs-row row.0 row.1 ∙ ap (map need_surface) (items_hidden-the_row-Surface-0 ps))

pub need_repeat : (p : Surface) (turns : Turns) → need_surface (surface.Repeat p turns) ≡ need_turns turns.least (need_surface p)
unfolding need_surface hidden hidden-the_row-Surface-1
need_repeat p turns = refl

pub need_capture : (name : List ℕ) (p : Surface) → need_surface (surface.Capture name p) ≡ need_surface p
unfolding need_surface hidden hidden-the_row-Surface-1
need_capture name p = refl

pub need_path_seq : (ps : List Path) → need_path (path.Seq ps) ≡ need.And (map need_path ps)
unfolding need_path
need_path_seq ps = let row = path_row_of (path.Seq ps) in ap need.And (needs-path_row row.0 row.1 ∙ ap (map need_path) (items_hidden-the_row-Path-0 ps))

pub need_path_alt : (ps : List Path) → need_path (path.Alt ps) ≡ need.Or (map need_path ps)
unfolding need_path
need_path_alt ps = let row = path_row_of (path.Seq ps) in ap need.Or (needs-path_row row.0 row.1 ∙ ap (map need_path) (items_hidden-the_row-Path-0 ps))

pub need_path_repeat : (p : Path) (least : ℕ) (most : Option ℕ) → need_path (path.Repeat p least most) ≡ need_turns least (need_path p)
unfolding need_path hidden hidden-the_row-Path-1
need_path_repeat p least most = refl
