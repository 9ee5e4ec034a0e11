-- The session that runs stands beside its state, which is that of the name.
use Rattle.std.proofs.Common.{◌≡◌, ◌∙◌, None, ap, sym, true}
use Rattle.od_session.specs.declared.object.SessionState.{SessionState}
use Rattle.od_session.specs.Parts.{is_known}
use Rattle.od_workspace.proofs.Workspaces.Answers.{answer-resumed}
use Rattle.od_workspace.proofs.Workspaces.Places.{one-there}
use Rattle.od_workspace.proofs.workspace.Workspace.answer_resume.Goals as goal

pub resumed-requires : goal.resumed-requires
resumed-requires g c = (c.args.self.now.docs, c.running.ensures c.state-state.result.now c.state-state.ensures)

pub returns : goal.returns
returns g c =
    let (s, at, found, changes) = c.in-Some.ensures in
    let same : c.state-state.result.now ≡ s = one-there c.args.self.now.sessions c.in-Some.place c.state-state.result.now s c.state-state.ensures at in
    let free : s.holder ≡ None = ap (λ (t : SessionState). t.holder) (sym same) ∙ c.in_default-holder.is in
    let known : is_known c.args.heads.now s ≡ true = ap (is_known c.args.heads.now) (sym same) ∙ sym c.is_known.ensures ∙ c.if-not-is_known.false in
    answer-resumed c.args.heads.now c.args.self.now c.args.caller c.args.name.now s c.in-Some.place at found changes c.resumed.result free known (rw same at c.resumed.ensures)
