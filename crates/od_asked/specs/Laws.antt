-- The laws of what is asked and of its tables.
use Rattle.std.specs.Prelude.{◌≡◌, ◌↔◌, ℕ, ◌+◌, ◌≤◌, Bool, false, List, ◌++◌, length, Option}
use Rattle.std.specs.List.{flat_map}
use Rattle.od_asked.specs.Asked.{Asked, asked_surface, asked_path}
use Rattle.od_asked.specs.Holds.{has_text}
use Rattle.od_asked.specs.Tables.{RowsFit, columns_of}
use Rattle.od_document.specs.declared.sentence.Sentence.{Sentence}
use Rattle.od_pattern.specs.declared.pattern.Field.{Field}
use Rattle.od_pattern.specs.declared.pattern.Surface as surface
use Rattle.od_pattern.specs.declared.pattern.Surface.{Surface}
use Rattle.od_pattern.specs.declared.pattern.Turns.{Turns}
use Rattle.od_pattern.specs.declared.pattern.Value.{Value}
use Rattle.od_pattern.specs.declared.path.Path as path
use Rattle.od_pattern.specs.declared.path.Path.{Path}

-- the table of what is asked fits it from row 0 on
abbrev pub OwnTableFits : Type 0
OwnTableFits = (s : Sentence) (asked : List Asked) → RowsFit (columns_of s asked) s 0 asked

-- a table fits two lists exactly where it fits the one, and behind it the other
abbrev pub OneTableSplits : Type 0
OneTableSplits =
    (rows : List (List Bool)) (s : Sentence) (first : ℕ) (asked more : List Asked)
    → RowsFit rows s first (asked ++ more)
    ↔ (RowsFit rows s first asked × RowsFit rows s (first + length asked) more)

-- surfaces and paths ask what their parts ask, one after another;
-- a repeat and a capture ask what their body asks
pub record AsksInOrder : Type 0 where
  pub seq : (ps : List Surface) → asked_surface (surface.Seq ps) ≡ flat_map asked_surface ps
  pub alt : (ps : List Surface) → asked_surface (surface.Alt ps) ≡ flat_map asked_surface ps
  pub repeat : (p : Surface) (turns : Turns) → asked_surface (surface.Repeat p turns) ≡ asked_surface p
  pub capture : (name : List ℕ) (p : Surface) → asked_surface (surface.Capture name p) ≡ asked_surface p
  pub path_seq : (ps : List Path) → asked_path (path.Seq ps) ≡ flat_map asked_path ps
  pub path_alt : (ps : List Path) → asked_path (path.Alt ps) ≡ flat_map asked_path ps
  pub path_repeat :
      (p : Path) (least : ℕ) (most : Option ℕ) → asked_path (path.Repeat p least most) ≡ asked_path p

-- where there is no token no field has a text that fits
abbrev pub NoFieldWithoutToken : Type 0
NoFieldWithoutToken =
    (s : Sentence) (field : Field) (value : Value) (k : ℕ)
    → length s.tokens ≤ k → has_text s field value k ≡ false
