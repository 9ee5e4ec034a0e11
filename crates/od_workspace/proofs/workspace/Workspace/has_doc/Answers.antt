use Rattle.std.proofs.Common.{◌∙◌, ap}
use Rattle.std.specs.Option.{is_some}
use Rattle.od_names.proofs.Named.{named}
use Rattle.od_workspace.proofs.workspace.Workspace.has_doc.Goals as goal

pub returns : goal.returns
returns c = rw (← c.self.view_is) (c.is_some.ensures ∙ ap is_some c.place.ensures ∙ named (λ d. d.name) c.args.name.now c.self.inside.doc_names c.self.inside.docs.items c.self.invariant.kept.doc_names_are)
