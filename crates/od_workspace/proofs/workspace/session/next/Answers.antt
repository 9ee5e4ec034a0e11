-- Where the rounds go on, the answer to a step is that of the next round.
use Rattle.std.proofs.Common.{◌∙◌, sym}
use Rattle.std.proofs.lemmas.Result.{IfOk-weaker}
use Rattle.od_workspace.proofs.Workspaces.Steps.{step-going}
use Rattle.od_workspace.proofs.workspace.session.next.Goals as goal

pub returns : goal.returns
returns c = IfOk-weaker c.found.result _ _ (λ next h docs runs. step-going docs c.args.state.now (sym c.phase.ensures ∙ c.in-Going.is) next (h docs runs)) c.found.ensures
