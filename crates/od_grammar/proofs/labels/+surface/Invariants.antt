use Rattle.std.proofs.Common.{◌≡◌, drop}
use Rattle.std.specs.List.{flat_map, list_all}
use Rattle.od_rule_text.specs.Labels.{surface_labels}
use Rattle.od_rule_text.specs.Texts.{is_among}
use Rattle.od_grammar.proofs.labels.+surface.Given as goal

abbrev pub invariant-surfaces_are_known-loop-part : goal.invariant-surfaces_are_known-loop-part
invariant-surfaces_are_known-loop-part l =
    list_all (is_among l.labels) (flat_map surface_labels l.parts)
    ≡ list_all (is_among l.labels) (flat_map surface_labels (drop l.part-index l.parts))
