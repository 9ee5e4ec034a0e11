-- The session that runs stands beside its state.
use Rattle.od_workspace.proofs.workspace.Workspace.answer_print.Goals as goal

pub printed-requires : goal.printed-requires
printed-requires c = (c.args.self.now.docs, c.running.ensures c.state.result.now c.state.ensures)
