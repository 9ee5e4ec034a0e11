use Rattle.std.proofs.Common.{◌≡◌, ℕ, List, Err, ap, sym, subst}
use Rattle.std.specs.Option.{IfSome}
use Rattle.od_order.specs.Laws.{IsFew}
use Rattle.od_order.proofs.Few.{scripts_are_few}
use Rattle.od_serve.specs.Running.Ready.{script_in}
use Rattle.od_serve.proofs.Outcomes.{long-is-no-script, ok-weaker}
use Rattle.od_serve.proofs.serve.read_source.Goals as goal

pub returns-in-Err-TooLong-clause-fault : goal.returns-in-Err-TooLong-clause-fault
returns-in-Err-TooLong-clause-fault g c = long-is-no-script (g.S.Source.left c.args.source.now) (c.in-Err-TooLong.ensures.too_long (ap (λ x. Err x) c.in-Err-TooLong.field-0-is))

pub returns-in-Ok-read_script-clause-few : goal.returns-in-Ok-read_script-clause-few
returns-in-Ok-read_script-clause-few g c = ok-weaker c.make_ready.result _ (λ ready. IsFew (script_in ready))
    (λ ready same. subst IsFew (sym same) (scripts_are_few c.get.result.now c.in-Ok-read_script.script c.in-Ok-read_script.ensures.ok)) c.make_ready.ensures.script

pub returns-in-Ok-read_script-clause-fault : goal.returns-in-Ok-read_script-clause-fault
returns-in-Ok-read_script-clause-fault g c =
    let left = g.S.Source.left c.args.source.now in
    c.make_ready.ensures.refused left (record {
      bytes = c.get.result.now;
      reads = c.in-Ok-read_script.ensures.ok;
      told = subst (λ (bytes : List ℕ). IfSome left (λ known. bytes ≡ known)) (sym c.get.ensures) c.in-Ok.ensures.whole;
    })
