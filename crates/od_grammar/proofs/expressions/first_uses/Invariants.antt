use Rattle.std.proofs.Common.{◌≡◌, ◌+◌, ◌++◌, drop}
use Rattle.od_rule_text.specs.Expressions.{appearances, body_expressions, first_appearances, first_of_each}
use Rattle.od_grammar.specs.Uses.{uses}
use Rattle.od_grammar.proofs.expressions.first_uses.Given as goal

abbrev pub invariant-loop-rule : goal.invariant-loop-rule
invariant-loop-rule l = record {
  at : l.passed ≡ l.rule-index;
  rest : first_appearances body_expressions l.rules
      ≡ uses l.found.items ++ first_of_each l.seen (appearances body_expressions (l.rule-index + 1) (drop l.rule-index l.rules));
}
