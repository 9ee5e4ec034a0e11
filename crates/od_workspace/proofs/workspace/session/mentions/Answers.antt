-- The mentions are few: together they do not weigh too much.
use Rattle.std.proofs.Common.{ap, ◌∙◌, length, arith}
use Rattle.od_workspace.proofs.Workspaces.Running.{known-few, known-told}
use Rattle.od_workspace.proofs.workspace.session.mentions.Goals as goal

pub overflow_cast-result : goal.overflow_cast-result
overflow_cast-result c =
    let same = ap length (c.mentions.ensures ∙ known-told c.requires.0 c.args.state.now c.args.running.now c.requires.1) in
    let few = known-few c.requires.0 c.args.state.now c.args.running.now c.requires.1 in
    omega (arith, same, few)
