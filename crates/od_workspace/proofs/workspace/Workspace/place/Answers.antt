use Rattle.od_workspace.proofs.Workspaces.Places.{session-at_position}
use Rattle.od_workspace.proofs.Workspaces.Changes.{found-changes}
use Rattle.od_workspace.proofs.workspace.Workspace.place.Goals as goal

pub returns : goal.returns
returns c = rw (← c.self.view_is) (found-changes c.args.name.now c.self.inside.sessions.items c.place.result c.self.invariant.kept.distinct
    (session-at_position c.args.name.now c.self.inside.session_names c.self.inside.sessions.items c.place.result c.self.invariant.kept.session_names_are c.place.ensures))
