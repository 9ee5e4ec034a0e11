use Rattle.std.proofs.Common.{take}
use Rattle.od_grammar.specs.Known.{AreLabels}
use Rattle.od_grammar.proofs.labels.labels_of.Given as goal

abbrev pub invariant-loop-rule : goal.invariant-loop-rule
invariant-loop-rule l = AreLabels l.labels (take l.rule-index l.rules)
