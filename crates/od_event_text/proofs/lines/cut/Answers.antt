use Rattle.od_event_text.proofs.Cutting.{cut_tells}
use Rattle.od_event_text.proofs.lines.cut.Goals as goal

pub returns : goal.returns
returns c = cut_tells c.args.separator c.args.text.now c.utf8.text c.requires c.split_once.result c.split_once.ensures.cases
