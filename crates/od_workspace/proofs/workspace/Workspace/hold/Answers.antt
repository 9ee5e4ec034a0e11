-- The session at the place has another holder.
use Rattle.std.proofs.Common.{◌≡◌, ◌∙◌, ap, subst, sym, refl, slice_set}
use Rattle.od_session.specs.declared.object.SessionState.{SessionState}
use Rattle.od_workspace.specs.Workspaces.Changes.{changed_at}
use Rattle.od_workspace.specs.Workspaces.Kept.{IsKept}
use Rattle.od_workspace.specs.Workspaces.Sessions.{IsRunning}
use Rattle.od_workspace.proofs.Workspaces.Changes.{set-back, kept-at}
use Rattle.od_workspace.proofs.Workspaces.Places.{read-at}
use Rattle.od_workspace.proofs.Workspaces.Running.{runs-held}
use Rattle.od_workspace.proofs.Workspaces.Zips.{zip-first}
use Rattle.od_workspace.proofs.workspace.Workspace.hold.Goals as goal

in-place : (c : goal.After-self-1) → slice_set c.self.inside.sessions.items c.args.place c.give.new.state ≡ changed_at c.args.place (λ s. record s { holder = c.args.holder }) c.self.inside.sessions.items
in-place c =
    let e = rw (← c.self.view_is) at c.requires in
    set-back (λ s. record s { holder = c.args.holder }) c.self.inside.sessions.items c.args.place e.0 c.index_mut.result.now c.give.new.state e.1 c.index_mut.ensures.value c.give.ensures

pub invariant_of-self : goal.invariant_of-self
invariant_of-self c =
    let s = c.self.inside in
    let e = rw (← c.self.view_is) at c.requires in
    let held : c.give.new.state ≡ record e.0 { holder = c.args.holder } =
    c.give.ensures ∙ ap (λ (t : SessionState). record t { holder = c.args.holder }) (read-at s.sessions.items c.args.place e.0 c.index_mut.result.now e.1 c.index_mut.ensures.value) in
    record {
      kept = subst (λ sessions. IsKept s.docs.items s.doc_names s.bytes s.sentences sessions s.session_names) (sym (in-place c))
          (kept-at s.docs.items s.doc_names s.bytes s.sentences s.sessions.items s.session_names (λ t. record t { holder = c.args.holder }) (λ t. refl) c.args.place e.0 e.1 c.self.invariant.kept);
      runs = zip-first (IsRunning s.docs.items) s.sessions.items s.running.items c.args.place e.0 c.give.new.state e.1
          (λ r h. subst (λ x. IsRunning s.docs.items x r) (sym held) (runs-held s.docs.items e.0 r h c.args.holder)) c.self.invariant.runs;
    }

pub returns : goal.returns
returns c = rw (← c.self.view_is) (ap (λ sessions. record { docs = c.self.inside.docs.items; sessions = sessions }) (in-place c))
