-- The mentions that a round adds are few, and the phase is that of the state with them.
use Rattle.std.proofs.Common.{◌≡◌, ◌+◌, ◌∷◌, [], ◌++◌, ap, ◌∙◌, length, arith}
use Rattle.od_command.specs.declared.history.Reply.TheVariants.{Stepped}
use Rattle.od_session.proofs.After.{few-new}
use Rattle.od_session.specs.Parts.{phase_with}
use Rattle.od_workspace.proofs.Workspaces.Running.{phase-after}
use Rattle.od_workspace.proofs.workspace.session.stepped.Goals as goal

pub overflow_cast-result : goal.overflow_cast-result
overflow_cast-result c =
    let (docs, runs, finds) = c.requires in
    let few = few-new docs c.args.state.now c.args.added.now finds runs.differ runs.light in
    let same = c.len.ensures in
    omega (arith, few, same)

pub returns : goal.returns
returns c =
    let (docs, runs, finds) = c.requires in
    let told : c.phase_with.result ≡ phase_with c.args.state.now (c.args.state.now.rounds ++ c.args.added.now ∷ []) =
    c.phase_with.ensures ∙ phase-after docs c.args.state.now c.args.running.now runs c.args.added.now finds in
    ap (λ n. Stepped (n + 1) c.len.result c.phase_with.result) c.round.ensures
    ∙ ap (λ n. Stepped (length c.args.state.now.rounds + 1) n c.phase_with.result) c.len.ensures
    ∙ ap (Stepped (length c.args.state.now.rounds + 1) (length c.args.added.now)) told
