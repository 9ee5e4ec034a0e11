-- What the session finds is the next round of its state.
use Rattle.std.proofs.Common.{◌∙◌, sym, ap}
use Rattle.od_model.specs.Object.Replies.{reply_round}
use Rattle.od_workspace.proofs.Workspaces.Running.{round-told}
use Rattle.od_workspace.proofs.workspace.session.found.Goals as goal

pub returns-in-Ok : goal.returns-in-Ok
returns-in-Ok c docs h = sym (round-told docs c.args.state.now c.args.running.now h h.grammar h.rules_are) ∙ c.in-Ok.ensures h.grammar h.rules_are

pub returns-in-Err-Crowded : goal.returns-in-Err-Crowded
returns-in-Err-Crowded c docs h = ap (reply_round c.args.state.now) (sym (round-told docs c.args.state.now c.args.running.now h h.grammar h.rules_are) ∙ (rw (c.in-Err-Crowded.field-0-is) at (c.in-Err-Crowded.ensures h.grammar h.rules_are)))

pub returns-in-Err-TooMany : goal.returns-in-Err-TooMany
returns-in-Err-TooMany c docs h = ap (reply_round c.args.state.now) (sym (round-told docs c.args.state.now c.args.running.now h h.grammar h.rules_are) ∙ (rw (c.in-Err-TooMany.field-0-is) at (c.in-Err-TooMany.ensures h.grammar h.rules_are)))
