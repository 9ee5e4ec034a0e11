use Rattle.std.proofs.Common.{sym, ap, ◌∙◌}
use Rattle.std.specs.List.{list_all}
use Rattle.od_rule_text.specs.Labels.{surface_labels}
use Rattle.od_rule_text.specs.Texts.{is_among}
use Rattle.od_grammar.proofs.SurfaceLabels.{labels_label, labels_repeat, labels_capture}
use Rattle.od_grammar.proofs.Among.{and_true}
use Rattle.od_grammar.proofs.labels.+surface.Goals as goal

pub surface_is_known-returns-in-Label : goal.surface_is_known-returns-in-Label
surface_is_known-returns-in-Label t c =
    c.is_known.ensures ∙ sym (and_true (is_among c.args.labels.now c.in-Label.name))
    ∙ ap (list_all (is_among c.args.labels.now)) (sym (ap surface_labels c.in-Label.is ∙ labels_label c.in-Label.name))

pub surface_is_known-returns-in-Repeat : goal.surface_is_known-returns-in-Repeat
surface_is_known-returns-in-Repeat t c =
    c.surface_is_known.ensures
    ∙ ap (list_all (is_among c.args.labels.now))
    (ap surface_labels c.get.ensures ∙ sym (ap surface_labels c.in-Repeat.is ∙ labels_repeat c.in-Repeat.body c.in-Repeat.field-1))

pub surface_is_known-returns-in-Capture : goal.surface_is_known-returns-in-Capture
surface_is_known-returns-in-Capture t c =
    c.surface_is_known-in-Capture.ensures
    ∙ ap (list_all (is_among c.args.labels.now))
    (ap surface_labels c.get-in-Capture.ensures ∙ sym (ap surface_labels c.in-Capture.is ∙ labels_capture c.in-Capture.field-0 c.in-Capture.body))
