-- What patterns ask that are built from their parts, and which labels they name.
use Rattle.std.proofs.Common.{◌≡◌, ℕ, List, ◌++◌, refl, ◌∙◌, ap}
use Rattle.std.specs.Prelude.{Option}
use Rattle.std.specs.List.{flat_map}
use mathlib.Core.Former.{Count}
use denote.Hole.Carrier.{hidden}
use Rattle.od_asked.specs.Asked.{asked_surface, asked_surfaces, asked_path, asked_paths}
use Rattle.od_asked.specs.Named.{named_surface, named_surfaces}
use Rattle.od_asked.specs.Laws.{AsksInOrder}
use Rattle.od_pattern.specs.declared.path.Path as path
use Rattle.od_pattern.specs.declared.path.Path.{Path, Row_of-Path, end_of-Path, more_of-Path, items-the_row-Path, items_hidden-the_row-Path-0}
use Rattle.od_pattern.specs.declared.path.Path.TheBlock.{hidden-the_row-Path-1}
use Rattle.od_pattern.specs.declared.pattern.Turns.{Turns}
use Rattle.od_pattern.specs.declared.pattern.Surface as surface
use Rattle.od_pattern.specs.declared.pattern.Surface.{Surface, Row_of-Surface, end_of-Surface, more_of-Surface, items-the_row-Surface, items_hidden-the_row-Surface-0}
use Rattle.od_pattern.specs.declared.pattern.Surface.TheBlock.{hidden-the_row-Surface-1}

-- the row of a sequence or an alternation
abbrev row_of : Surface → (n : Count) × Row_of-Surface n
row_of (surface.Seq' _ row) = (_, row)
row_of _ = (_, end_of-Surface)

abbrev path_row_of : Path → (n : Count) × Row_of-Path n
path_row_of (path.Seq' _ row) = (_, row)
path_row_of _ = (_, end_of-Path)

-- the parts in a row are those of the list
asked-row : (n : _) (row : Row_of-Surface n) → asked_surfaces row ≡ flat_map asked_surface (items-the_row-Surface n row)
unfolding asked_surfaces
asked-row n end_of-Surface = refl
asked-row n (more_of-Surface p rest) = ap (λ z. asked_surface p ++ z) (asked-row _ rest)

asked-path_row : (n : _) (row : Row_of-Path n) → asked_paths row ≡ flat_map asked_path (items-the_row-Path n row)
unfolding asked_paths
asked-path_row n end_of-Path = refl
asked-path_row n (more_of-Path p rest) = ap (λ z. asked_path p ++ z) (asked-path_row _ rest)

named-row : (n : _) (row : Row_of-Surface n) → named_surfaces row ≡ flat_map named_surface (items-the_row-Surface n row)
unfolding named_surfaces
named-row n end_of-Surface = refl
named-row n (more_of-Surface p rest) = ap (λ z. named_surface p ++ z) (named-row _ rest)

-- what is asked, from the parts
pub asked_seq : (ps : List Surface) → asked_surface (surface.Seq ps) ≡ flat_map asked_surface ps
unfolding asked_surface
asked_seq ps = let row = row_of (surface.Seq ps) in asked-row row.0 row.1 ∙ ap (flat_map asked_surface) (items_hidden-the_row-Surface-0 ps)

pub asked_alt : (ps : List Surface) → asked_surface (surface.Alt ps) ≡ flat_map asked_surface ps
unfolding asked_surface
asked_alt ps = let row = row_of (surface.Seq ps) in asked-row row.0 row.1 ∙ ap (flat_map asked_surface) (items_hidden-the_row-Surface-0 ps)

pub asked_repeat : (p : Surface) (turns : Turns) → asked_surface (surface.Repeat p turns) ≡ asked_surface p
unfolding asked_surface hidden hidden-the_row-Surface-1
asked_repeat p turns = refl

pub asked_capture : (name : List ℕ) (p : Surface) → asked_surface (surface.Capture name p) ≡ asked_surface p
unfolding asked_surface hidden hidden-the_row-Surface-1
asked_capture name p = refl

pub asked_path_seq : (ps : List Path) → asked_path (path.Seq ps) ≡ flat_map asked_path ps
unfolding asked_path
asked_path_seq ps = let row = path_row_of (path.Seq ps) in asked-path_row row.0 row.1 ∙ ap (flat_map asked_path) (items_hidden-the_row-Path-0 ps)

pub asked_path_alt : (ps : List Path) → asked_path (path.Alt ps) ≡ flat_map asked_path ps
unfolding asked_path
asked_path_alt ps = let row = path_row_of (path.Seq ps) in asked-path_row row.0 row.1 ∙ ap (flat_map asked_path) (items_hidden-the_row-Path-0 ps)

pub asked_path_repeat : (p : Path) (least : ℕ) (most : Option ℕ) → asked_path (path.Repeat p least most) ≡ asked_path p
unfolding asked_path hidden hidden-the_row-Path-1
asked_path_repeat p least most = refl

-- which labels are named, from the parts
pub named_seq : (ps : List Surface) → named_surface (surface.Seq ps) ≡ flat_map named_surface ps
unfolding named_surface
named_seq ps = let row = row_of (surface.Seq ps) in named-row row.0 row.1 ∙ ap (flat_map named_surface) (items_hidden-the_row-Surface-0 ps)

pub named_alt : (ps : List Surface) → named_surface (surface.Alt ps) ≡ flat_map named_surface ps
unfolding named_surface
named_alt ps = let row = row_of (surface.Seq ps) in named-row row.0 row.1 ∙ ap (flat_map named_surface) (items_hidden-the_row-Surface-0 ps)

pub in_order : AsksInOrder
in_order = record {
  seq = asked_seq;
  alt = asked_alt;
  repeat = asked_repeat;
  capture = asked_capture;
  path_seq = asked_path_seq;
  path_alt = asked_path_alt;
  path_repeat = asked_path_repeat;
}
