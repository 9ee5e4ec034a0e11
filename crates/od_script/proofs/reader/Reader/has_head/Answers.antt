use Rattle.std.proofs.Common.{◌∙◌, ap}
use Rattle.std.specs.Option.{is_some}
use Rattle.od_names.proofs.Named.{named}
use Rattle.od_script.proofs.reader.Reader.has_head.Goals as goal

pub returns : goal.returns
returns c = rw (← c.self.view_is) (c.is_some.ensures ∙ ap is_some c.place.ensures ∙ named (λ h. h.name) c.args.name.now c.self.inside.names c.self.inside.heads.items c.self.invariant.names_are)
