-- The session that starts stands beside the state that is opened.
use Rattle.std.proofs.Common.{◌≡◌, ◌∙◌, ◌<◌, Some, ap, sym, length, rules}
use Rattle.od_session.specs.declared.object.TheConstants.{SESSIONS}
use Rattle.od_workspace.proofs.Workspaces.Answers.{answer-opened, state_of}
use Rattle.od_workspace.proofs.Workspaces.Places.{one-there}
use Rattle.od_workspace.proofs.Workspaces.Running.{runs-new}
use Rattle.od_workspace.proofs.workspace.Workspace.answer_open.Goals as goal

pub returns-clause-answer : goal.returns-clause-answer
returns-clause-answer g c =
    let (named, at, found) = c.in-Some.ensures in
    let same : named ≡ c.head.result.now = one-there c.args.heads.now c.in-Some.place named c.head.result.now at c.head.ensures in
    let (grammar, reads, is) = rw c.head.ensures at c.in_ok-running.ensures.runs in
    let count : c.len-documents.result ≡ length c.args.self.now.docs = search rules in
    let head = c.head.result.now in
    let o = c.args.self.now in
    let state : c.in_ok-state.state ≡ state_of o c.args.caller c.args.name.now c.args.limit head = c.in_ok-state.ensures ∙ ap (λ n. record (state_of o c.args.caller c.args.name.now c.args.limit head) { documents = n }) count in
    let few : length o.sessions < SESSIONS = search rules in
    let runs = runs-new o.docs c.args.name.now head c.args.limit c.args.caller grammar c.in_ok-view.field-0 reads c.if-limit-gt-SESSION_ROUNDS.false c.in_ok-view.ensures.tiled c.in_ok-view.ensures.documents in
    rw (count, state, is)
    (answer-opened c.args.heads.now o c.args.caller c.args.name.now c.args.grammar.now c.args.limit head _ (found ∙ ap Some same) c.if-limit-lt1.false c.if-limit-gt-SESSION_ROUNDS.false
    (sym c.has_session.ensures ∙ c.if-has_session.false) few runs)
