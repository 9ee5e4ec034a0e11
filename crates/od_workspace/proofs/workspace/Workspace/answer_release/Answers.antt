use Rattle.od_workspace.proofs.Workspaces.Answers.{answer-released}
use Rattle.od_workspace.proofs.workspace.Workspace.answer_release.Goals as goal

pub returns-in-Ok : goal.returns-in-Ok
returns-in-Ok c heads =
    let (s, at, found, changes, holds) = c.in-Ok.ensures in
    answer-released heads c.args.self.now c.args.caller c.args.name.now s c.in-Ok.place at found changes holds
