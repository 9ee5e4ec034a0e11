use Rattle.std.proofs.Common.{sym, ◌∙◌}
use Rattle.od_rule_text.specs.Blanks.{is_blank}
use Rattle.od_yaml.proofs.Blanks.{without_last_is}
use Rattle.od_yaml.proofs.blank.trailing_blanks_at.Goals as goal

pub returns-else-is_blank-clause-front : goal.returns-else-is_blank-clause-front
returns-else-is_blank-clause-front c =
    without_last_is is_blank c.args.text.now c.loop-end.end 0 c.loop-end.invariant.within c.loop-end.invariant.blank (λ h. sym c.is_blank.ensures ∙ c.if-is_blank.false)
