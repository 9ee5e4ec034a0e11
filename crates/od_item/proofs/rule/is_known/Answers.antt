use Rattle.std.proofs.Common.{◌∙◌, ap, bytes_eq}
use Rattle.std.specs.Option.{is_some}
use Rattle.od_names.proofs.Named.{is_some-position}
use Rattle.od_item.proofs.rule.is_known.Goals as goal

pub returns : goal.returns
returns c = c.is_some.ensures ∙ ap is_some c.place.ensures
    ∙ is_some-position (λ other. bytes_eq other c.args.name.now) c.args.names.now
