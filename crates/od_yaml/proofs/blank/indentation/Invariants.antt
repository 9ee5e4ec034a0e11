use Rattle.std.proofs.Common.{◌≡◌, ◌+◌, drop}
use Rattle.od_rule_text.specs.Blanks.{indentation}
use Rattle.od_yaml.proofs.blank.indentation.Given as goal

abbrev pub invariant-loop-i : goal.invariant-loop-i
invariant-loop-i l = indentation l.line ≡ l.i + indentation (drop l.i l.line)
