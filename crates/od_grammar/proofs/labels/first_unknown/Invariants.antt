use Rattle.std.proofs.Common.{◌≡◌, ◌+◌, drop}
use Rattle.od_rule_text.specs.Grammars.{label_fault}
use Rattle.od_grammar.proofs.labels.first_unknown.Given as goal

abbrev pub invariant-loop-rule : goal.invariant-loop-rule
invariant-loop-rule l = record {
  at : l.passed ≡ l.rule-index;
  rest : label_fault l.rules 1 l.rules ≡ label_fault l.rules (l.rule-index + 1) (drop l.rule-index l.rules);
}
