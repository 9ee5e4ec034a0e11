use Rattle.std.proofs.Common.{◌+◌, length, refl}
use Rattle.od_event_text.proofs.Cutting.{parted, unparted}
use Rattle.od_event_text.proofs.lines.cut_line.Goals as goal

pub returns-in-Some : goal.returns-in-Some
returns-in-Some c = parted c.args.line (record { at = c.args.line.at + length c.in-Some.head.now + 1; text = c.in-Some.text }) c.in-Some.head.now c.in-Some.ensures refl

pub returns-in-None : goal.returns-in-None
returns-in-None c = unparted c.args.line c.in-None.ensures
