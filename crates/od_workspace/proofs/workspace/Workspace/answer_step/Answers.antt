-- The session that runs stands beside its state, which is that of the name.
use Rattle.std.proofs.Common.{◌≡◌}
use Rattle.od_workspace.proofs.Workspaces.Answers.{answer-not_stepped, answer-stepped}
use Rattle.od_workspace.proofs.Workspaces.Places.{one-there}
use Rattle.od_workspace.proofs.workspace.Workspace.answer_step.Goals as goal

pub next-requires : goal.next-requires
next-requires c = (c.args.self.now.docs, c.running-running.ensures c.state-state.result.now c.state-state.ensures)

pub stepped-requires : goal.stepped-requires
stepped-requires c =
    let runs = c.running-running.ensures c.state-state.result.now c.state-state.ensures in
    let next = rw c.in-Ok-2.is at (c.in_ok-refusal.ensures c.args.self.now.docs runs) in
    (c.args.self.now.docs, runs, next.1)

pub returns-in-Err-2 : goal.returns-in-Err-2
returns-in-Err-2 c heads =
    let (s, at, found, changes, holds) = c.in-Ok.ensures in
    let same : c.state-state.result.now ≡ s = one-there c.args.self.now.sessions c.in-Ok.place c.state-state.result.now s c.state-state.ensures at in
    let runs = c.running-running.ensures c.state-state.result.now c.state-state.ensures in
    let refused = rw c.in-Err-2.is at (c.in_ok-refusal.ensures c.args.self.now.docs runs) in
    rw c.refused-in-Err-2.ensures (answer-not_stepped heads c.args.self.now c.args.caller c.args.name.now s c.in-Ok.place at found changes holds c.in-Err-2.refusal (rw same at refused))

pub returns-in-Ok-2 : goal.returns-in-Ok-2
returns-in-Ok-2 c heads =
    let (s, at, found, changes, holds) = c.in-Ok.ensures in
    let same : c.state-state.result.now ≡ s = one-there c.args.self.now.sessions c.in-Ok.place c.state-state.result.now s c.state-state.ensures at in
    let runs = c.running-running.ensures c.state-state.result.now c.state-state.ensures in
    let next = rw same at (rw c.in-Ok-2.is at (c.in_ok-refusal.ensures c.args.self.now.docs runs)) in
    answer-stepped heads c.args.self.now c.args.caller c.args.name.now s c.in-Ok.place at found changes holds c.in-Ok-2.added c.stepped.result next.0 next.1 (rw same at c.stepped.ensures)
