use Rattle.std.proofs.Common.{take}
use Rattle.std.specs.List.{AllZip}
use Rattle.od_rule.specs.Codes.{IsReadyRule}
use Rattle.od_rule.proofs.compiled.codes_of.Given as goal

abbrev pub invariant-loop-rule : goal.invariant-loop-rule
invariant-loop-rule l = AllZip IsReadyRule (take l.rule-index l.rules) l.codes
