use Rattle.od_syntax.specs.Events.{own_lines}
use Rattle.std.specs.Str.{chars}
use Rattle.od_event_text.specs.declared.event.Measured.{Measured}
use Rattle.od_event_text.proofs.Events.{ends_early}
use Rattle.od_event_text.proofs.event.any_event.Goals as goal

pub returns-in-None-clause-tells : goal.returns-in-None-clause-tells
returns-in-None-clause-tells c = ends_early (λ (x : Measured). x.rule) c.bad.result c.args.text.now (own_lines (chars c.args.text.now)) c.utf8.text c.in-None.ensures c.bad.ensures
