use Rattle.std.proofs.Common.{◌≡◌, ◌+◌, ◌∙◌, [], ◌∷◌, false, refl, sym, ap, subst, arith, Err}
use Rattle.std.proofs.lemmas.Result.{err_from_is_err_and}
use Rattle.od_command.specs.declared.history.Command.TheVariants.{Step}
use Rattle.od_order.specs.declared.script.Order.TheVariants.{Run}
use Rattle.od_model.specs.History.Orders.{GoesOn, Follows, Begins}
use Rattle.od_desk.specs.Further.{OneMore, AtMostOne, Unfolded}
use Rattle.od_desk.proofs.Further.{steps-more, steps-ended, steps-begun, steps-cut, unfolded-begun, next-call, one-alone, part-alone, then-alone}
use Rattle.od_serve.proofs.Steps.{went-cut}
use Rattle.od_serve.proofs.run.run_steps.Goals as goal

pub returns-in_err-answer-clause-went : goal.returns-in_err-answer-clause-went
returns-in_err-answer-clause-went g c =
    let stopped = err_from_is_err_and c.from_residual-in_err-answer.result c.from_residual-in_err-answer.ensures.1 in
    let part : AtMostOne c.args.caller (Step c.args.name.now) c.steps.desk.history c.answer.new.self.history = subst (λ n. AtMostOne c.args.caller (Step n) c.steps.desk.history c.answer.new.self.history) c.in_ok-copy.ensures c.in_err-answer.ensures.part in
    went-cut c.args.caller (Run c.args.name.now ∷ []) c.from_residual-in_err-answer.result c.in_err-answer.field-0.0 c.args.desk.now c.answer.new.self
    (stopped.1 ∙ ap (λ stop. Err stop) stopped.2) (c.in_err-answer.ensures.origin ∙ c.steps.invariant.origin)
    (steps-cut c.args.name.now c.args.caller c.args.desk.now.history c.steps.desk.history c.answer.new.self.history c.steps.invariant.going part) c.in_err-answer.ensures.cut

pub returns-then-not-branch-clause-went : goal.returns-then-not-branch-clause-went
returns-then-not-branch-clause-went g c =
    let told = c.in_ok-answer.ensures.entry in
    let more : OneMore c.args.caller (Step c.args.name.now) c.steps.desk.history c.answer.new.self.history told.0 = subst (λ n. OneMore c.args.caller (Step n) c.steps.desk.history c.answer.new.self.history told.0) c.in_ok-copy.ensures told.1 in
    let ends : GoesOn told.0.reply → ⊥ = λ goes. let is = told.2.1 goes in absurd (cc) in
    let followed = steps-ended c.args.name.now c.args.caller c.args.desk.now.history c.steps.desk.history c.answer.new.self.history told.0 c.steps.invariant.going more ends in
    record {
      origin = c.in_ok-answer.ensures.origin ∙ c.steps.invariant.origin;
      followed = followed;
      begun = unfolded-begun c.args.caller (Run c.args.name.now ∷ []) c.args.desk.now.history c.answer.new.self.history followed;
      cut = c.in_ok-answer.ensures.cut;
    }

pub steps-preserved : goal.steps-preserved
steps-preserved g c =
    let told = c.in_ok-answer.ensures.entry in
    let more : OneMore c.args.caller (Step c.args.name.now) c.steps.desk.history c.answer.new.self.history told.0 = subst (λ n. OneMore c.args.caller (Step n) c.steps.desk.history c.answer.new.self.history told.0) c.in_ok-copy.ensures told.1 in
    let goes : GoesOn told.0.reply = told.2.0 c.if-not-branch.false in
    let climbs = c.in_ok-answer.ensures.climbs c.args.name.now (ap (λ n. Step n) c.in_ok-copy.ensures) c.if-not-branch.false in
    let up = climbs.more in
    let few = climbs.few in
    let count = c.steps.invariant.count in
    let call = next-call c.args.caller (Step c.args.name.now) c.steps.desk.history c.answer.new.self.history told.0 (c.args.call + c.steps.steps) more c.steps.invariant.call in
    record {
      whole = c.in_ok-answer.ensures.cut;
      origin = c.in_ok-answer.ensures.origin ∙ c.steps.invariant.origin;
      call = omega (arith, call);
      going = steps-more c.args.name.now c.args.caller c.args.desk.now.history c.steps.desk.history c.answer.new.self.history told.0 c.steps.invariant.going more goes;
      alone = then-alone c.args.caller c.args.desk.now.history c.steps.desk.history c.answer.new.self.history c.steps.invariant.alone (one-alone c.args.caller (Step c.args.name.now) c.steps.desk.history c.answer.new.self.history told.0 more);
      few = omega (arith, few, count, up);
      count = omega (arith, count, up);
    }
