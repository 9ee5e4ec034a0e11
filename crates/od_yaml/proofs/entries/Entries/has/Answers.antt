use Rattle.std.proofs.Common.{◌∙◌, ap}
use Rattle.std.specs.Option.{is_some}
use Rattle.od_names.proofs.Named.{named}
use Rattle.od_yaml.proofs.entries.Entries.has.Goals as goal

pub returns : goal.returns
returns c = rw (← c.self.view_is) (c.is_some.ensures ∙ ap is_some c.place.ensures ∙ named (λ e. e.key) c.args.key.now c.self.inside.keys c.self.inside.entries.items c.self.invariant)
