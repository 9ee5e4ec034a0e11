use Rattle.od_names.proofs.Named.{unnamed}
use Rattle.od_script.proofs.reader.Reader.push_head.Goals as goal

pub push-requires : goal.push-requires
push-requires c =
    let new = rw (← c.self.view_is) at c.requires in
    unnamed (λ h. h.name) c.args.head.name c.self.inside.names c.self.inside.heads.items c.self.invariant.names_are new
