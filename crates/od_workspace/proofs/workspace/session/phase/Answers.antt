-- The session that runs is in the phase of its state.
use Rattle.std.proofs.Common.{◌∙◌}
use Rattle.od_workspace.proofs.Workspaces.Running.{phase-told}
use Rattle.od_workspace.proofs.workspace.session.phase.Goals as goal

pub returns : goal.returns
returns c = c.phase.ensures ∙ phase-told c.requires.0 c.args.state.now c.args.running.now c.requires.1
