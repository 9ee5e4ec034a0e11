-- A session that goes on stands beside its state.
use Rattle.od_workspace.proofs.Workspaces.Running.{found-told, room-told, runs-on}
use Rattle.od_workspace.proofs.workspace.go_on.Goals as goal

pub add-requires-clause-room : goal.add-requires-clause-room
add-requires-clause-room c =
    let (docs, runs, next) = c.requires.runs in
    room-told docs c.args.state.now c.args.running.now runs next.0

pub add-requires-clause-next : goal.add-requires-clause-next
add-requires-clause-next c =
    let (docs, runs, next) = c.requires.runs in
    (runs.grammar, runs.rules_are, found-told docs c.args.state.now c.args.running.now runs c.args.added next.1)

pub returns-in-Ok-clause-runs : goal.returns-in-Ok-clause-runs
returns-in-Ok-clause-runs c docs runs next = rw (c.in-Ok.ensures.ok, c.in_ok-push.ensures.ok, c.requires.same) (runs-on docs c.args.state.now c.args.running.now runs c.args.added next.1 next.0)
