use Rattle.std.proofs.Common.{◌+◌, length, refl}
use Rattle.od_event_text.proofs.Cutting.{first_ended, first_alone}
use Rattle.od_event_text.proofs.lines.first_line.Goals as goal

pub returns-in-Some : goal.returns-in-Some
returns-in-Some c = first_ended c.args.rest (record { at = c.args.rest.at; text = c.in-Some.text }) (record { at = c.args.rest.at + length c.in-Some.text.now + 1; text = c.in-Some.more }) c.in-Some.ensures refl refl

pub returns-in-None : goal.returns-in-None
returns-in-None c = first_alone c.args.rest _ c.in-None.ensures refl refl c.requires.some
