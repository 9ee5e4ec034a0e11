use Rattle.std.proofs.Common.{◌≡◌, drop}
use Rattle.od_rule_text.specs.Scalars.{has_colon_space}
use Rattle.od_yaml.proofs.plain.has_colon_space.Given as goal

abbrev pub invariant-loop-i : goal.invariant-loop-i
invariant-loop-i l = has_colon_space l.text ≡ has_colon_space (drop l.i l.text)
