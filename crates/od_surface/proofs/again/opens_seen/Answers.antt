use Rattle.od_surface.proofs.Named.{opens_by}
use Rattle.od_surface.proofs.again.opens_seen.Goals as goal

pub returns-in-NameOpen : goal.returns-in-NameOpen
returns-in-NameOpen c = opens_by c.args.names.now c.seen_before.new.names c.seen_before.result _ c.args.x.now.kind c.in-NameOpen.is c.seen_before.ensures
