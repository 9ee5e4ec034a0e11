use Rattle.std.proofs.Common.{◌≡◌, ◌∙◌, ◌+◌, List, [], ◌∷◌, ◌++◌, length, take, drop, sym, ap, ap₂, subst, arith, Err, length-append}
use Rattle.std.proofs.lemmas.List.{map-id}
use Rattle.std.proofs.lemmas.Result.{err_from_is_err_and}
use Rattle.std.proofs.lemmas.Iterator.Adapters.{YieldsList-from_vec}
use Rattle.std.proofs.lemmas.Iterator.Consumers.{YieldsList-turn, YieldsList-so_far, YieldsList-end}
use Rattle.od_order.specs.declared.script.Order.{Order}
use Rattle.od_model.specs.History.Orders.{Follows, Begins}
use Rattle.od_desk.specs.Further.{Unfolded}
use Rattle.od_desk.proofs.Further.{follows-then, begins-then, begins-more, then-alone, unfolded-begun}
use Rattle.od_serve.proofs.ClientLemmas.{split_at}
use Rattle.od_serve.proofs.Steps.{went-cut}
use Rattle.od_serve.proofs.run.run_client.Given.{Over}
use Rattle.od_serve.proofs.run.run_client.Goals as goal

pub returns-in_err-call-clause-went : goal.returns-in_err-call-clause-went
returns-in_err-call-clause-went g c =
    let gives = c.into_iter-order-iterator.ensures.into_iter_gives in
    let road = YieldsList-from_vec {s = c.into_iter-order-iterator.result} c.args.orders (gives.0 ∙ c.into_vec-order-items.ensures) (gives.1 ∙ c.into_vec-order-items.result.ok.0 ∙ ap length c.into_vec-order-items.ensures) in
    let turn = YieldsList-turn road c.orders.yielded c.orders.order-iterator c.orders.yielded_by c.next.result c.next.new.self c.in-Some.order c.in-Some.is c.next.ensures.steps in
    let so_far = YieldsList-so_far road c.orders.yielded c.orders.order-iterator c.orders.yielded_by in
    let rest = drop (length c.orders.yielded + 1) c.args.orders in
    let all : c.args.orders ≡ (c.orders.yielded ++ c.in-Some.order ∷ []) ++ rest = split_at c.args.orders c.orders.yielded c.in-Some.order turn.0 (sym (map-id c.orders.yielded) ∙ so_far) turn.1 in
    let stopped = err_from_is_err_and c.from_residual.result c.from_residual.ensures.1 in
    let went = c.in_err-call.ensures.went in
    let one = begins-then c.args.caller c.orders.yielded (c.in-Some.order ∷ []) c.args.desk.now.history c.orders.desk.history c.follow.new.desk.history c.orders.invariant.followed went.begun in
    let begun = begins-more c.args.caller (c.orders.yielded ++ c.in-Some.order ∷ []) rest c.args.desk.now.history c.follow.new.desk.history one in
    went-cut c.args.caller c.args.orders c.from_residual.result c.in_err-call.field-0.0 c.args.desk.now c.follow.new.desk
    (stopped.1 ∙ ap (λ stop. Err stop) stopped.2) (went.origin ∙ c.orders.invariant.origin)
    (subst (λ (os : List Order). Unfolded Begins c.args.caller os c.args.desk.now.history c.follow.new.desk.history) (sym all) begun) went.cut

pub orders-preserved : goal.orders-preserved
orders-preserved g c =
    let went = c.in_ok-call.ensures.went in
    let next = c.in_ok-call.ensures.next in
    let few = c.orders.invariant.few in
    let more = next.few in
    record {
      whole = went.cut;
      origin = went.origin ∙ c.orders.invariant.origin;
      call = next.is;
      few = omega (arith, few, more, length-append c.orders.yielded (c.in-Some.order ∷ []));
      followed = follows-then c.args.caller c.orders.yielded (c.in-Some.order ∷ []) c.args.desk.now.history c.orders.desk.history c.follow.new.desk.history c.orders.invariant.followed went.followed;
      alone = then-alone c.args.caller c.args.desk.now.history c.orders.desk.history c.follow.new.desk.history c.orders.invariant.alone c.in_ok-call.ensures.alone;
    }

pub returns-clause-went : goal.returns-clause-went
returns-clause-went g c =
    let gives = c.into_iter-order-iterator.ensures.into_iter_gives in
    let road = YieldsList-from_vec {s = c.into_iter-order-iterator.result} c.args.orders (gives.0 ∙ c.into_vec-order-items.ensures) (gives.1 ∙ c.into_vec-order-items.result.ok.0 ∙ ap length c.into_vec-order-items.ensures) in
    let end = YieldsList-end road c.orders.yielded c.orders.order-iterator c.orders.yielded_by c.next.result c.next.new.self c.in-None.is c.next.ensures.steps in
    let followed : Unfolded Follows c.args.caller c.args.orders c.args.desk.now.history c.orders.desk.history
    = subst (λ (os : List Order). Unfolded Follows c.args.caller os c.args.desk.now.history c.orders.desk.history) (sym (map-id c.orders.yielded) ∙ end.0) c.orders.invariant.followed in
    record {
      origin = c.orders.invariant.origin;
      followed = followed;
      begun = unfolded-begun c.args.caller c.args.orders c.args.desk.now.history c.orders.desk.history followed;
      cut = c.orders.invariant.whole;
    }
