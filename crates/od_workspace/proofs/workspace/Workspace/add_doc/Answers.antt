-- A document of a new name has a place of its own; the sessions see what they saw.
use Rattle.std.proofs.Common.{◌∷◌, [], ◌++◌}
use Rattle.od_names.proofs.Named.{unnamed}
use Rattle.od_workspace.specs.Workspaces.Sessions.{IsRunning}
use Rattle.od_workspace.proofs.Workspaces.Added.{kept-doc}
use Rattle.od_workspace.proofs.Workspaces.Running.{runs-more}
use Rattle.od_workspace.proofs.Workspaces.Zips.{zip-weaker}
use Rattle.od_workspace.proofs.workspace.Workspace.add_doc.Goals as goal

pub push-requires : goal.push-requires
push-requires c = rw (c.name.ensures, c.in_ok-committed.ensures) (unnamed (λ d. d.name) c.args.doc.name c.self.inside.doc_names c.self.inside.docs.items c.self.invariant.kept.doc_names_are (rw (← c.self.view_is) at c.requires.free))

pub invariant_of-self-2 : goal.invariant_of-self-2
invariant_of-self-2 c =
    let s = c.self.inside in
    rw (c.push_reserved.ensures.items, c.reserve.ensures.items, c.in_ok-push.ensures.ok, c.name.ensures, c.in_ok-committed.ensures, c.len-sentences.ensures) (record {
      kept = kept-doc s.docs.items s.doc_names s.bytes s.sentences s.sessions.items s.session_names c.self.invariant.kept c.args.doc (rw (← c.self.view_is) at c.requires.room);
      runs = zip-weaker (IsRunning s.docs.items) (IsRunning (s.docs.items ++ c.args.doc ∷ [])) (λ state running h. runs-more s.docs.items state running h (c.args.doc ∷ [])) s.sessions.items s.running.items c.self.invariant.runs;
    })
