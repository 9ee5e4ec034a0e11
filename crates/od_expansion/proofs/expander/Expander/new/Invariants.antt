use Rattle.std.proofs.Common.{◌≡◌, map, take}
use Rattle.od_rule_text.specs.declared.rule_file.KeyText.{KeyText}
use Rattle.od_expansion.proofs.Wholes.{fresh}
use Rattle.od_expansion.proofs.expander.Expander.new.Given as goal

abbrev pub invariant-loop-v : goal.invariant-loop-v
invariant-loop-v l = record {
  names_are : l.names ≡ map (λ (v : KeyText). v.key) (take l.v-index l.v-items);
  states_are : l.states.items ≡ fresh (take l.v-index l.v-items);
}
