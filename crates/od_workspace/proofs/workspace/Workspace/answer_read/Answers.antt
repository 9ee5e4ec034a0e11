use Rattle.std.proofs.Common.{◌∙◌, sym}
use Rattle.od_workspace.proofs.Workspaces.Answers.{answer-added}
use Rattle.od_workspace.proofs.workspace.Workspace.answer_read.Goals as goal

pub returns : goal.returns
returns c heads caller =
    let reads = rw c.in-Ok.is at c.requires in
    let new = rw (← c.self.view_is) at (sym c.has_doc.ensures ∙ c.if-has_doc.false) in
    let room = rw (← c.self.view_is) at (sym c.is_full.ensures ∙ c.if-is_full.false) in
    rw (c.len.ensures, c.self.inside.docs.ok.0, ← c.self.view_is) (answer-added heads (record { docs = c.self.inside.docs.items; sessions = c.self.inside.sessions.items }) caller c.args.name.now c.args.body.now c.in-Ok.doc reads new room)
