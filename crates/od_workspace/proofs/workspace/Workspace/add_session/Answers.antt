-- A session of a new name has a place of its own, and the session that runs stands beside it.
use Rattle.std.proofs.Common.{refl}
use Rattle.od_names.proofs.Named.{unnamed}
use Rattle.od_workspace.specs.Workspaces.Sessions.{IsRunning}
use Rattle.od_workspace.proofs.Workspaces.Added.{kept-session}
use Rattle.od_workspace.proofs.Workspaces.Zips.{zip-more}
use Rattle.od_workspace.proofs.workspace.Workspace.add_session.Goals as goal

pub push-requires : goal.push-requires
push-requires c = unnamed (λ s. s.name) c.args.state.name c.self.inside.session_names c.self.inside.sessions.items c.self.invariant.kept.session_names_are (rw (← c.self.view_is) at c.requires.free)

pub invariant_of-self-2 : goal.invariant_of-self-2
invariant_of-self-2 c =
    let s = c.self.inside in
    rw (c.push_reserved.ensures.items, c.reserve.ensures.items, c.push_reserved-2.ensures.items, c.reserve-2.ensures.items, c.in_ok-push.ensures.ok) (record {
      kept = kept-session s.docs.items s.doc_names s.bytes s.sentences s.sessions.items s.session_names c.self.invariant.kept c.args.state.name c.args.state refl (rw (← c.self.view_is) at c.requires.free) (rw (← c.self.view_is) at c.requires.room);
      runs = zip-more (IsRunning s.docs.items) s.sessions.items s.running.items c.args.state c.args.running c.self.invariant.runs (rw (← c.self.view_is) at c.requires.runs);
    })
