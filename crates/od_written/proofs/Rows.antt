-- A pattern of a row of parts is built from the list of them.
use Rattle.std.proofs.Common.{◌≡◌, sym, ap, subst}
use Rattle.od_pattern.specs.declared.path.Path as path
use Rattle.od_pattern.specs.declared.path.Path.{Path, items-the_row-Path, items_hidden-the_row-Path-0}
use Rattle.od_pattern.specs.declared.path.Path.TheOpen.{Path-F}
use Rattle.od_pattern.specs.declared.path.Path.TheViews.{roll-Path, out-Path, roll-out-Path}
use Rattle.od_pattern.specs.declared.path.Path.TheVariants as path_rolls
use Rattle.od_pattern.specs.declared.pattern.Surface as surface
use Rattle.od_pattern.specs.declared.pattern.Surface.{Surface, items-the_row-Surface, items_hidden-the_row-Surface-0}
use Rattle.od_pattern.specs.declared.pattern.Surface.TheOpen.{Surface-F}
use Rattle.od_pattern.specs.declared.pattern.Surface.TheViews.{roll-Surface, out-Surface, roll-out-Surface}
use Rattle.od_pattern.specs.declared.pattern.Surface.TheVariants as surface_rolls

-- parts and choices are those of the row's list
abbrev pub IsPathOfList : Path → Type 0
IsPathOfList (path.Seq' v row) = path.Seq (items-the_row-Path _ row) ≡ path.Seq' v row
IsPathOfList (path.Alt' v row) = path.Alt (items-the_row-Path _ row) ≡ path.Alt' v row
IsPathOfList p = Unit {0}

rolled_path : (y : Path-F Path) → IsPathOfList (roll-Path y)
rolled_path (Path-F.Along v) = subst IsPathOfList (sym (path_rolls.rolls-Along v)) tt
rolled_path (Path-F.Against v) = subst IsPathOfList (sym (path_rolls.rolls-Against v)) tt
rolled_path (Path-F.Filter c) = subst IsPathOfList (sym (path_rolls.rolls-Filter c)) tt
rolled_path (Path-F.Seq ps) = subst IsPathOfList (sym (path_rolls.rolls-Seq ps)) (ap path.Seq (items_hidden-the_row-Path-0 ps))
rolled_path (Path-F.Alt ps) = subst IsPathOfList (sym (path_rolls.rolls-Alt ps)) (ap path.Alt (items_hidden-the_row-Path-0 ps))
rolled_path (Path-F.Repeat p least most) = subst IsPathOfList (sym (path_rolls.rolls-Repeat p least most)) tt

pub path_of_list : (p : Path) → IsPathOfList p
path_of_list p = subst IsPathOfList (roll-out-Path p) (rolled_path (out-Path p))

-- the same of surfaces
abbrev pub IsSurfaceOfList : Surface → Type 0
IsSurfaceOfList (surface.Seq' v row) = surface.Seq (items-the_row-Surface _ row) ≡ surface.Seq' v row
IsSurfaceOfList (surface.Alt' v row) = surface.Alt (items-the_row-Surface _ row) ≡ surface.Alt' v row
IsSurfaceOfList p = Unit {0}

rolled_surface : (y : Surface-F Surface) → IsSurfaceOfList (roll-Surface y)
rolled_surface (Surface-F.Token c) = subst IsSurfaceOfList (sym (surface_rolls.rolls-Token c)) tt
rolled_surface (Surface-F.Label name) = subst IsSurfaceOfList (sym (surface_rolls.rolls-Label name)) tt
rolled_surface (Surface-F.Look ahead positive c) = subst IsSurfaceOfList (sym (surface_rolls.rolls-Look ahead positive c)) tt
rolled_surface Surface-F.First = subst IsSurfaceOfList (sym surface_rolls.rolls-First) tt
rolled_surface Surface-F.Last = subst IsSurfaceOfList (sym surface_rolls.rolls-Last) tt
rolled_surface (Surface-F.Seq ps) = subst IsSurfaceOfList (sym (surface_rolls.rolls-Seq ps)) (ap surface.Seq (items_hidden-the_row-Surface-0 ps))
rolled_surface (Surface-F.Alt ps) = subst IsSurfaceOfList (sym (surface_rolls.rolls-Alt ps)) (ap surface.Alt (items_hidden-the_row-Surface-0 ps))
rolled_surface (Surface-F.Repeat p turns) = subst IsSurfaceOfList (sym (surface_rolls.rolls-Repeat p turns)) tt
rolled_surface (Surface-F.Capture name p) = subst IsSurfaceOfList (sym (surface_rolls.rolls-Capture name p)) tt

pub surface_of_list : (p : Surface) → IsSurfaceOfList p
surface_of_list p = subst IsSurfaceOfList (roll-out-Surface p) (rolled_surface (out-Surface p))
