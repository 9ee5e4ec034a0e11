use Rattle.std.proofs.Common.{◌≡◌, ℕ, List, take}
use Rattle.std.specs.List.{AllZip}
use Rattle.od_pattern.specs.declared.pattern.Surface.{Surface}
use Rattle.od_rule.specs.Codes.{IsPlaced}
use Rattle.od_rule.specs.Finding.{FitEach, scans_of}
use Rattle.od_rule.proofs.scans.scan_each.Given as goal

abbrev pub invariant-loop-placed : goal.invariant-loop-placed
invariant-loop-placed l =
    (surfaces : List (ℕ × Surface)) → AllZip IsPlaced l.programs surfaces
    → FitEach l.columns.rows l.words.sentence surfaces
    → l.scans ≡ scans_of l.words.sentence l.local (take l.placed-index surfaces)
