use Rattle.std.proofs.Common.{◌≡◌, ◌+◌, [], length, drop}
use Rattle.od_rule_text.specs.Grammars.{rules_of}
use Rattle.od_grammars.specs.Grammars.{patterns}
use Rattle.od_grammar.proofs.Items.{after}
use Rattle.od_grammar.proofs.reading.read_items.Given as goal

abbrev pub invariant-loop-item : goal.invariant-loop-item
invariant-loop-item l = record {
  at : l.passed ≡ l.item-index;
  many : length l.rules ≡ l.item-index;
  vars : l.expander ≡ l.fn.expander;
  rest : rules_of patterns l.fn.expander 1 [] l.items
      ≡ after l.rules (rules_of patterns l.fn.expander (l.item-index + 1) l.names (drop l.item-index l.items));
}
