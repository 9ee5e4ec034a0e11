-- The history of the desk is one of the script.
use Rattle.std.proofs.Common.{◌≡◌, ◌∙◌, ap, subst, refl, List}
use Rattle.od_session.proofs.Accepted.{all-accepted}
use Rattle.od_session.specs.Parts.{nothing}
use Rattle.od_model.specs.Run.Clients.{has_refusal}
use Rattle.od_model.specs.Run.Outcome.{Outcome}
use Rattle.od_desk.specs.Desks.{Taken, taken, Origin, DeskState}
use Rattle.od_serve.specs.Running.Ends.{run_status}
use Rattle.od_serve.specs.Running.Ready.{script_in}
use Rattle.od_serve.proofs.Outcomes.{ended}
use Rattle.od_serve.proofs.serve.run_script.Goals as goal

pub new-desk-requires : goal.new-desk-requires
new-desk-requires g c = record { accepted = all-accepted c.args.ready.heads c.requires.read }

pub returns-clause-outcome : goal.returns-clause-outcome
returns-clause-outcome g c left refused is =
    let d : DeskState = c.run_clients-followed.new.desk in
    let sink : Taken = taken (g.W.Sink.written c.args.sink) (g.W.Sink.faults c.args.sink) in
    let began : Origin = record { heads = c.args.ready.heads; start = nothing; sink = sink } in
    let origin : d.origin ≡ began = c.run_clients-followed.ensures.origin ∙ ap (λ (x : DeskState). x.origin) c.new-desk.ensures in
    let followed = c.run_clients-followed.ensures in
    let status = run_status c.run_clients-followed.result (has_refusal d.history) in
    let end = ended (script_in c.args.ready) d left is (ap (λ (o : Origin). o.heads) origin) c.requires.read refused c.close-history.ensures.desk followed.callers followed.begins c.run_clients-followed.result followed.follows followed.cut in
    rw (c.run_status.ensures, c.deref.ensures.value, c.close-history.ensures.history, ap (λ t. t.bytes) c.close-history.ensures.sink)
    (subst (λ (o : Origin). Outcome o.start status d.history (record { left = left; before = o.sink.bytes; now = d.sink.bytes; refused = refused })) origin end)
