-- A session that runs stands beside each state.
use Rattle.std.proofs.Common.{◌<◌, length, subst, sym, refl}
use Rattle.std.proofs.lemmas.Option.{slice_get_read}
use Rattle.od_workspace.specs.Workspaces.Sessions.{IsRunning}
use Rattle.od_workspace.proofs.Workspaces.Zips.{zip-at, zip-within}
use Rattle.od_workspace.proofs.workspace.Workspace.running.Goals as goal

pub index-requires : goal.index-requires
index-requires c =
    let s = c.self.inside in
    subst (λ n. c.args.place < n) (sym s.running.ok.0)
    (zip-within (IsRunning s.docs.items) s.sessions.items s.running.items c.args.place c.self.invariant.runs (rw (← c.self.view_is) at c.requires))

pub returns : goal.returns
returns c state at =
    let s = c.self.inside in
    let within = zip-within (IsRunning s.docs.items) s.sessions.items s.running.items c.args.place c.self.invariant.runs (rw (← c.self.view_is) at c.requires) in
    let there = slice_get_read s.running.items (length s.running.items) c.args.place c.index.result.now refl within c.index.ensures in
    rw (← c.self.view_is) (zip-at (IsRunning s.docs.items) s.sessions.items s.running.items c.args.place state c.index.result.now c.self.invariant.runs (rw (← c.self.view_is) at at) there)
