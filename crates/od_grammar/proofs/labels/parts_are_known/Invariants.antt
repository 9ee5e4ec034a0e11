use Rattle.std.proofs.Common.{◌≡◌, drop}
use Rattle.std.specs.List.{flat_map, list_all}
use Rattle.od_pattern.specs.declared.rule.HopPart.{HopPart}
use Rattle.od_rule_text.specs.Labels.{surface_labels}
use Rattle.od_rule_text.specs.Texts.{is_among}
use Rattle.od_grammar.proofs.labels.parts_are_known.Given as goal

abbrev pub invariant-loop-part : goal.invariant-loop-part
invariant-loop-part l =
    list_all (is_among l.labels) (flat_map (λ (part : HopPart). surface_labels part.surface) l.parts)
    ≡ list_all (is_among l.labels) (flat_map (λ (part : HopPart). surface_labels part.surface) (drop l.part-index l.parts))
