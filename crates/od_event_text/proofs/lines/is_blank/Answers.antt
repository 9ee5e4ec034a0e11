use Rattle.std.proofs.Common.{◌∙◌, ◌==◌, ap, length}
use Rattle.std.specs.Str.{chars, trim_start}
use Rattle.od_event_text.proofs.Cutting.{blank}
use Rattle.od_event_text.proofs.lines.is_blank.Goals as goal

pub returns : goal.returns
unfolding trim_start
returns c = c.is_empty.ensures ∙ ap (λ bs. length bs == 0) c.trim_start.ensures.trim ∙ blank (chars c.args.text.now)
