use Rattle.std.proofs.Common.{◌≡◌, ◌+◌, drop}
use Rattle.std.specs.List.{prefix_len}
use Rattle.od_language.specs.Identifier.{in_identifier}
use Rattle.od_expansion.proofs.name.name_length.Given as goal

abbrev pub invariant-loop-i : goal.invariant-loop-i
invariant-loop-i l = prefix_len in_identifier l.text ≡ l.i + prefix_len in_identifier (drop l.i l.text)
