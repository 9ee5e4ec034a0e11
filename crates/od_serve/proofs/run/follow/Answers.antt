use Rattle.std.proofs.Common.{◌≡◌, ◌∙◌, [], ◌∷◌, sym, ap, subst, Err}
use Rattle.std.proofs.lemmas.Result.{err_from_is_err_and}
use Rattle.od_order.specs.declared.script.Order.{Order}
use Rattle.od_order.specs.declared.script.Order.TheVariants.{One}
use Rattle.od_desk.proofs.Further.{one-followed, one-begun, unfolded-begun}
use Rattle.od_serve.specs.Running.Went.{Went}
use Rattle.od_serve.proofs.Steps.{went-cut}
use Rattle.od_serve.proofs.run.follow.Goals as goal

pub returns-in_err-answer-in-One-clause-went : goal.returns-in_err-answer-in-One-clause-went
returns-in_err-answer-in-One-clause-went g c =
    let stopped = err_from_is_err_and c.from_residual.result c.from_residual.ensures.1 in
    let answer = c.in_err-answer-in-One.ensures in
    rw c.in-One.is
    (went-cut c.args.caller (One c.in-One.command ∷ []) c.from_residual.result c.in_err-answer-in-One.field-0.0 c.args.desk.now c.answer.new.self
    (stopped.1 ∙ ap (λ stop. Err stop) stopped.2) answer.origin (one-begun c.args.caller c.in-One.command c.args.desk.now.history c.answer.new.self.history answer.part) answer.cut)

pub returns-in_ok-answer-in-One-clause-went : goal.returns-in_ok-answer-in-One-clause-went
returns-in_ok-answer-in-One-clause-went g c =
    let answer = c.in_ok-answer-in-One.ensures in
    let followed = one-followed c.args.caller c.in-One.command c.args.desk.now.history c.answer.new.self.history answer.entry.0 answer.entry.1 in
    rw c.in-One.is (record {
      origin = answer.origin;
      followed = followed;
      begun = unfolded-begun c.args.caller (One c.in-One.command ∷ []) c.args.desk.now.history c.answer.new.self.history followed;
      cut = answer.cut;
    })
