-- The labels of surface patterns that are built from their parts.
use Rattle.std.proofs.Common.{◌≡◌, ℕ, List, [], ◌∷◌, ◌++◌, refl, ◌∙◌, ap, append-nil}
use Rattle.std.specs.List.{flat_map}
use mathlib.Core.Former.{Count}
use denote.Hole.Carrier.{hidden}
use Rattle.od_pattern.specs.declared.pattern.Turns.{Turns}
use Rattle.od_pattern.specs.declared.pattern.Surface as surface
use Rattle.od_pattern.specs.declared.pattern.Surface.{Surface, Row_of-Surface, end_of-Surface, more_of-Surface, items-the_row-Surface, items_hidden-the_row-Surface-0}
use Rattle.od_pattern.specs.declared.pattern.Surface.TheBlock.{hidden-the_row-Surface-1}
use Rattle.od_rule_text.specs.Labels.{surface_labels, parts_labels}

-- the row of a sequence or an alternation
abbrev row_of : Surface → (n : Count) × Row_of-Surface n
row_of (surface.Seq' _ row) = (_, row)
row_of _ = (_, end_of-Surface)

pub labels_label : (name : List ℕ) → surface_labels (surface.Label name) ≡ name ∷ []
unfolding surface_labels
labels_label name = refl

-- the parts in a row are those of the list
labels-row : (n : _) (row : Row_of-Surface n) → parts_labels row ≡ flat_map surface_labels (items-the_row-Surface n row)
unfolding parts_labels
labels-row n end_of-Surface = refl
labels-row n (more_of-Surface p rest) = ap (λ z. surface_labels p ++ z) (labels-row _ rest)

pub labels_seq : (ps : List Surface) → surface_labels (surface.Seq ps) ≡ flat_map surface_labels ps
unfolding surface_labels
labels_seq ps = let row = row_of (surface.Seq ps) in labels-row row.0 row.1 ∙ ap (flat_map surface_labels) (items_hidden-the_row-Surface-0 ps)

pub labels_alt : (ps : List Surface) → surface_labels (surface.Alt ps) ≡ flat_map surface_labels ps
unfolding surface_labels
labels_alt ps = let row = row_of (surface.Seq ps) in labels-row row.0 row.1 ∙ ap (flat_map surface_labels) (items_hidden-the_row-Surface-0 ps)

pub labels_repeat : (p : Surface) (turns : Turns) → surface_labels (surface.Repeat p turns) ≡ surface_labels p
unfolding surface_labels hidden hidden-the_row-Surface-1
labels_repeat p turns = append-nil (surface_labels p)

pub labels_capture : (name : List ℕ) (p : Surface) → surface_labels (surface.Capture name p) ≡ surface_labels p
unfolding surface_labels hidden hidden-the_row-Surface-1
labels_capture name p = append-nil (surface_labels p)
