use Rattle.od_names.proofs.Named.{unnamed}
use Rattle.od_yaml.proofs.entries.Entries.push.Goals as goal

pub push-requires : goal.push-requires
push-requires c =
    let new = rw (← c.self.view_is) at c.requires in
    unnamed (λ e. e.key) c.args.entry.key c.self.inside.keys c.self.inside.entries.items c.self.invariant new
