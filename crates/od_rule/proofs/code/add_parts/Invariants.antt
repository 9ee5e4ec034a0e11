use Rattle.std.proofs.Common.{◌≡◌, ◌++◌, List, ℕ, length, drop}
use Rattle.std.specs.List.{AllZip}
use Rattle.od_pairing.specs.Hop.{part_codes}
use Rattle.od_pattern.specs.declared.pattern.Surface.{Surface}
use Rattle.od_rule.specs.Codes.{part_surfaces, IsPlaced}
use Rattle.od_rule.proofs.code.add_parts.Given as goal

abbrev pub invariant-loop-part : goal.invariant-loop-part
invariant-loop-part l =
    ((before : List (ℕ × Surface)) → AllZip IsPlaced l.fn.code.programs before
    → (placed : List (ℕ × Surface)) × AllZip IsPlaced l.code.programs placed
    × (placed ++ part_surfaces (length l.asked.items) (drop l.part-index l.parts)
    ≡ before ++ part_surfaces (length l.fn.asked.items) l.parts))
    × (l.code.moves ++ part_codes (length l.asked.items) (drop l.part-index l.parts)
    ≡ l.fn.code.moves ++ part_codes (length l.fn.asked.items) l.parts)
