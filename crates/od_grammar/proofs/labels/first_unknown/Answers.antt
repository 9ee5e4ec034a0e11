use Rattle.std.proofs.Common.{◌≡◌, true, false, arith, rules}
use Rattle.od_grammar.proofs.KnownLabels.{fault_here, fault_later}
use Rattle.od_grammar.proofs.labels.first_unknown.Goals as goal

pub returns-then-not-body_is_known : goal.returns-then-not-body_is_known
returns-then-not-body_is_known c =
    let fails : c.body_is_known.result ≡ false = search rules in
    fault_here c.args.labels.now c.args.rules.now c.requires.labels c.loop-rule.rule-index c.loop-rule.passed c.rule-item.result c.body_is_known.result
    (omega (arith, c.loop-rule-test.true)) c.rule-item.is c.loop-rule.invariant.rest c.body_is_known.ensures fails c.loop-rule.invariant.at

pub loop-rule-preserved : goal.loop-rule-preserved
loop-rule-preserved c =
    let holds : c.body_is_known.result ≡ true = search rules in
    record {
      at = omega arith;
      rest = fault_later c.args.labels.now c.args.rules.now c.requires.labels c.loop-rule.rule-index c.rule-item.result c.body_is_known.result
          (omega (arith, c.loop-rule-test.true)) c.rule-item.is c.loop-rule.invariant.rest c.body_is_known.ensures holds;
    }
