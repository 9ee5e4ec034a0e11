use Rattle.std.proofs.Common.{List, [], ◌∷◌, length, length-append, sym, ap, ◌∙◌, arith, rules}
use Rattle.od_pattern.specs.declared.rule.Rule.{Rule}
use Rattle.od_rule_text.specs.Grammars.{rules_of}
use Rattle.od_grammars.specs.Grammars.{patterns}
use Rattle.od_grammar.proofs.Items.{after, after_none, items_next}
use Rattle.od_grammar.proofs.reading.read_items.Goals as goal

pub loop-item-init : goal.loop-item-init
loop-item-init c = record {
  at = search rules;
  many = ap length c.new-rules.ensures;
  vars = search rules;
  rest = after_none (rules_of patterns c.args.expander.now 1 [] c.args.items.now)
      ∙ ap (λ (z : List Rule). after z (rules_of patterns c.args.expander.now 1 [] c.args.items.now)) (sym c.new-rules.ensures)
      ∙ ap (λ (z : List (List _)). after c.new-rules.result (rules_of patterns c.args.expander.now 1 z c.args.items.now)) (sym c.new-names.ensures);
}

pub loop-item-preserved : goal.loop-item-preserved
loop-item-preserved c =
    let more = c.in_ok-push-in-Ok.ensures.ok in
    record {
      at = omega arith;
      many = omega (arith, ap length more, length-append c.loop-item.rules (c.in-Ok.rule ∷ []), c.loop-item.invariant.many);
      vars = c.in-Ok.ensures.same ∙ c.loop-item.invariant.vars;
      rest = items_next c.args.expander.now c.loop-item.expander c.loop-item.invariant.vars c.args.items.now c.loop-item.item-index c.loop-item.passed
          c.item-item.result c.get.result.now c.get.ensures c.loop-item.rules c.loop-item.names (omega (arith, c.loop-item-test.true)) c.item-item.is
          c.loop-item.invariant.at c.loop-item.invariant.rest c.in-Ok.rule c.push.new.self c.take_item.new.names c.in-Ok.ensures.ok more c.in-Ok.ensures.names;
    }
