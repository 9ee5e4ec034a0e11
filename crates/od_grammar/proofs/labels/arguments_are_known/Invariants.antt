use Rattle.std.proofs.Common.{◌≡◌, drop}
use Rattle.std.specs.List.{flat_map, list_all}
use Rattle.std.specs.Prelude.{option_to_list}
use Rattle.od_pattern.specs.declared.rule.Argument.{Argument}
use Rattle.od_rule_text.specs.Texts.{is_among}
use Rattle.od_grammar.proofs.labels.arguments_are_known.Given as goal

abbrev pub invariant-loop-argument : goal.invariant-loop-argument
invariant-loop-argument l =
    list_all (is_among l.labels) (flat_map (λ (argument : Argument). option_to_list argument.label) l.arguments)
    ≡ list_all (is_among l.labels) (flat_map (λ (argument : Argument). option_to_list argument.label) (drop l.argument-index l.arguments))
