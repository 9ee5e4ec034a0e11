use Rattle.std.proofs.Common.{◌∙◌, ap, arith}
use Rattle.od_columns.specs.Waiting.{texts}
use Rattle.od_rule_text.specs.Expressions.{body_expressions, first_appearances}
use Rattle.od_grammar.specs.Uses.{uses}
use Rattle.od_grammar.proofs.Appearing.{uses_more}
use Rattle.od_grammar.proofs.expressions.first_uses.Goals as goal

pub loop-rule-preserved : goal.loop-rule-preserved
loop-rule-preserved c = record {
  at = omega arith;
  rest = uses_more (first_appearances body_expressions c.args.rules.now) c.args.rules.now c.loop-rule.rule-index c.loop-rule.passed c.rule-item.result
      (texts c.deref.result.now) c.loop-rule.seen c.note_all.new.seen (uses c.loop-rule.found.items) (uses c.note_all.new.found.items)
      (omega (arith, c.loop-rule-test.true)) c.rule-item.is c.loop-rule.invariant.at (ap texts c.deref.ensures.value ∙ c.in_ok-expressions.ensures)
      c.in_ok-note_all.ensures c.loop-rule.invariant.rest;
}
