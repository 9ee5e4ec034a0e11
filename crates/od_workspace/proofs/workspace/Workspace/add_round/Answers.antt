-- The session at the place goes on, and the session that runs beside it.
use Rattle.std.proofs.Common.{◌≡◌, ◌∷◌, [], ◌++◌, ap, subst, sym, refl, ◌<◌}
use Rattle.std.proofs.lemmas.Option.{slice_get_within}
use Rattle.std.proofs.lemmas.Result.{on_ok_weaker}
use Rattle.od_workspace.specs.Workspaces.Kept.{IsKept}
use Rattle.od_workspace.specs.Workspaces.Sessions.{IsRunning}
use Rattle.od_workspace.proofs.Workspaces.Changes.{set-back, kept-at}
use Rattle.od_workspace.proofs.Workspaces.Places.{read-at, read-there}
use Rattle.od_workspace.proofs.Workspaces.Zips.{zip-at, zip-set, zip-within}
use Rattle.od_workspace.proofs.workspace.Workspace.add_round.Goals as goal

pub index_mut-running-requires : goal.index_mut-running-requires
index_mut-running-requires c =
    let s = c.self.inside in
    let (state, at, next) = rw (← c.self.view_is) at c.requires in
    subst (λ n. c.args.place < n) (sym s.running.ok.0)
    (zip-within (IsRunning s.docs.items) s.sessions.items s.running.items c.args.place c.self.invariant.runs (slice_get_within s.sessions.items c.args.place state at))

pub go_on-requires-clause-runs : goal.go_on-requires-clause-runs
go_on-requires-clause-runs c =
    let s = c.self.inside in
    let (state, at, next) = rw (← c.self.view_is) at c.requires in
    let same : c.index_mut-state.result.now ≡ state = read-at s.sessions.items c.args.place state c.index_mut-state.result.now at c.index_mut-state.ensures.value in
    let within = zip-within (IsRunning s.docs.items) s.sessions.items s.running.items c.args.place c.self.invariant.runs (slice_get_within s.sessions.items c.args.place state at) in
    let there = read-there s.running.items c.args.place c.index_mut-running.result.now within c.index_mut-running.ensures.value in
    let runs = zip-at (IsRunning s.docs.items) s.sessions.items s.running.items c.args.place state c.index_mut-running.result.now c.self.invariant.runs at there in
    (s.docs.items, rw same runs, rw same next)

pub invariant_of-self : goal.invariant_of-self
invariant_of-self c =
    let s = c.self.inside in
    let (state, at, next) = rw (← c.self.view_is) at c.requires in
    let same : c.index_mut-state.result.now ≡ state = read-at s.sessions.items c.args.place state c.index_mut-state.result.now at c.index_mut-state.ensures.value in
    let within = zip-within (IsRunning s.docs.items) s.sessions.items s.running.items c.args.place c.self.invariant.runs (slice_get_within s.sessions.items c.args.place state at) in
    let there = read-there s.running.items c.args.place c.index_mut-running.result.now within c.index_mut-running.ensures.value in
    let runs = zip-at (IsRunning s.docs.items) s.sessions.items s.running.items c.args.place state c.index_mut-running.result.now c.self.invariant.runs at there in
    let set = set-back (λ t. record t { rounds = c.go_on.new.state.rounds }) s.sessions.items c.args.place state c.index_mut-state.result.now c.go_on.new.state at c.index_mut-state.ensures.value c.go_on.ensures.rounds in
    record {
      kept = subst (λ sessions. IsKept s.docs.items s.doc_names s.bytes s.sentences sessions s.session_names) (sym set)
          (kept-at s.docs.items s.doc_names s.bytes s.sentences s.sessions.items s.session_names (λ t. record t { rounds = c.go_on.new.state.rounds }) (λ t. refl) c.args.place state at c.self.invariant.kept);
      runs = zip-set (IsRunning s.docs.items) s.sessions.items s.running.items c.args.place c.go_on.new.state c.go_on.new.running c.self.invariant.runs (c.go_on.ensures.runs s.docs.items (rw same runs) (rw same next));
    }

pub returns-clause-ok : goal.returns-clause-ok
returns-clause-ok c =
    let s = c.self.inside in
    let (state, at, next) = rw (← c.self.view_is) at c.requires in
    rw (← c.self.view_is) (on_ok_weaker c.go_on.result
    (λ on. ap (λ sessions. record { docs = s.docs.items; sessions = sessions })
    (set-back (λ t. record t { rounds = t.rounds ++ c.args.added ∷ [] }) s.sessions.items c.args.place state c.index_mut-state.result.now c.go_on.new.state at c.index_mut-state.ensures.value on))
    c.go_on.ensures.ok)
