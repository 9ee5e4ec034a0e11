use Rattle.std.proofs.Common.{sym, ◌∙◌}
use Rattle.od_yaml.proofs.Blanks.{boundary_after_dash}
use Rattle.od_yaml.proofs.entry.entry_text.Goals as goal

pub text_from-requires : goal.text_from-requires
text_from-requires c = boundary_after_dash c.args.text.now c.utf8.text (sym c.is_item.ensures ∙ c.if-is_item.true)
