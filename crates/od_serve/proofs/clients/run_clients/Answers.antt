use Rattle.std.proofs.Common.{◌≡◌, ◌∙◌, ◌+◌, List, [], ◌∷◌, ◌++◌, length, drop, sym, ap, subst, arith, ◌≤◌, length-append}
use Rattle.std.proofs.lemmas.List.{map-id}
use Rattle.std.proofs.lemmas.Iterator.Adapters.{YieldsList-from_vec}
use Rattle.std.proofs.lemmas.Iterator.Consumers.{YieldsList-turn, YieldsList-so_far, YieldsList-end}
use Rattle.od_order.specs.declared.script.Order.{Order}
use Rattle.od_model.specs.History.Orders.{Follows, Begins}
use Rattle.od_model.specs.Run.Clients.{EachClient, OfClients}
use Rattle.od_model.proofs.Histories.Callers.{each-client}
use Rattle.od_serve.proofs.clients.run_clients.Given.{Over}
use Rattle.od_serve.proofs.clients.run_clients.Goals as goal
use Rattle.od_serve.proofs.ClientLemmas.{fresh-caller, callers-more, clients-more, clients-cut, of-clients, both-true, orders-few, split_at}

pub run_as_far-requires-clause-fresh : goal.run_as_far-requires-clause-fresh
run_as_far-requires-clause-fresh g c = fresh-caller c.clients.caller c.clients.yielded c.clients.desk.history c.clients.invariant.caller c.clients.invariant.callers

pub run_as_far-requires-clause-few : goal.run_as_far-requires-clause-few
run_as_far-requires-clause-few g c =
    let gives = c.into_iter-orders-iterator.ensures.into_iter_gives in
    let road = YieldsList-from_vec {s = c.into_iter-orders-iterator.result} c.args.clients (gives.0 ∙ c.into_vec-orders-items.ensures) (gives.1 ∙ c.into_vec-orders-items.result.ok.0 ∙ ap length c.into_vec-orders-items.ensures) in
    let turn = YieldsList-turn road c.clients.yielded c.clients.orders-iterator c.clients.yielded_by c.next.result c.next.new.self c.in-Some.orders c.in-Some.is c.next.ensures.steps in
    orders-few c.args.clients (length c.clients.yielded) c.in-Some.orders turn.0 turn.1 c.requires.short

-- the clients so far, the one that stopped, and those behind it
clients-are : (g : Over) (c : goal.After-drop-orders-iterator g) → c.args.clients ≡ (c.clients.yielded ++ c.in-Some.orders ∷ []) ++ drop (length c.clients.yielded + 1) c.args.clients
clients-are g c =
    let gives = c.into_iter-orders-iterator.ensures.into_iter_gives in
    let road = YieldsList-from_vec {s = c.into_iter-orders-iterator.result} c.args.clients (gives.0 ∙ c.into_vec-orders-items.ensures) (gives.1 ∙ c.into_vec-orders-items.result.ok.0 ∙ ap length c.into_vec-orders-items.ensures) in
    let turn = YieldsList-turn road c.clients.yielded c.clients.orders-iterator c.clients.yielded_by c.next.result c.next.new.self c.in-Some.orders c.in-Some.is c.next.ensures.steps in
    let so_far = YieldsList-so_far road c.clients.yielded c.clients.orders-iterator c.clients.yielded_by in
    split_at c.args.clients c.clients.yielded c.in-Some.orders turn.0 (sym (map-id c.clients.yielded) ∙ so_far) turn.1

pub returns-in_err-whole-clause-callers : goal.returns-in_err-whole-clause-callers
returns-in_err-whole-clause-callers g c =
    let callers = callers-more c.clients.caller c.clients.yielded c.in-Some.orders c.clients.desk.history c.run_as_far.new.desk.history c.clients.invariant.caller c.clients.invariant.callers c.in_err-whole.ensures.alone in
    subst (λ (cs : List (List Order)). OfClients cs c.run_as_far.new.desk.history) (sym (clients-are g c)) (of-clients (c.clients.yielded ++ c.in-Some.orders ∷ []) (drop (length c.clients.yielded + 1) c.args.clients) c.run_as_far.new.desk.history callers)

pub returns-in_err-whole-clause-begins : goal.returns-in_err-whole-clause-begins
returns-in_err-whole-clause-begins g c = subst (λ (cs : List (List Order)). EachClient Begins cs c.run_as_far.new.desk.history) (sym (clients-are g c))
    (clients-cut c.clients.caller c.clients.yielded c.in-Some.orders (drop (length c.clients.yielded + 1) c.args.clients) c.clients.desk.history c.run_as_far.new.desk.history
    c.clients.invariant.caller c.clients.invariant.callers c.clients.invariant.begins c.in_err-whole.ensures.alone c.in_err-whole.ensures.went.begun)

pub clients-preserved : goal.clients-preserved
clients-preserved g c =
    let caller = c.clients.invariant.caller in
    let went = c.in_ok-whole.ensures.went in
    let alone = c.in_ok-whole.ensures.alone in
    record {
      whole = went.cut;
      origin = went.origin ∙ c.clients.invariant.origin;
      caller = omega (arith, caller, length-append c.clients.yielded (c.in-Some.orders ∷ []));
      callers = callers-more c.clients.caller c.clients.yielded c.in-Some.orders c.clients.desk.history c.run_as_far.new.desk.history caller c.clients.invariant.callers alone;
      begins = clients-more Begins c.clients.caller c.clients.yielded c.in-Some.orders c.clients.desk.history c.run_as_far.new.desk.history caller c.clients.invariant.callers c.clients.invariant.begins alone went.begun;
      follows = λ all. let (before, now) = both-true c.clients.whole c.in_ok-whole.field-0 all in
          clients-more Follows c.clients.caller c.clients.yielded c.in-Some.orders c.clients.desk.history c.run_as_far.new.desk.history caller c.clients.invariant.callers (c.clients.invariant.follows before) alone (went.followed now);
    }

-- all clients were gone through
clients-end : (g : Over) (c : goal.After-drop-orders-iterator-2 g) → c.clients.yielded ≡ c.args.clients
clients-end g c =
    let gives = c.into_iter-orders-iterator.ensures.into_iter_gives in
    let road = YieldsList-from_vec {s = c.into_iter-orders-iterator.result} c.args.clients (gives.0 ∙ c.into_vec-orders-items.ensures) (gives.1 ∙ c.into_vec-orders-items.result.ok.0 ∙ ap length c.into_vec-orders-items.ensures) in
    let end = YieldsList-end road c.clients.yielded c.clients.orders-iterator c.clients.yielded_by c.next.result c.next.new.self c.in-None.is c.next.ensures.steps in
    sym (map-id c.clients.yielded) ∙ end.0

pub returns-clause-callers : goal.returns-clause-callers
returns-clause-callers g c = subst (λ (cs : List (List Order)). OfClients cs c.clients.desk.history) (clients-end g c) c.clients.invariant.callers

pub returns-clause-follows : goal.returns-clause-follows
returns-clause-follows g c all = subst (λ (cs : List (List Order)). EachClient Follows cs c.clients.desk.history) (clients-end g c) (each-client Follows c.clients.yielded c.clients.desk.history (c.clients.invariant.follows all))

pub returns-clause-begins : goal.returns-clause-begins
returns-clause-begins g c = subst (λ (cs : List (List Order)). EachClient Begins cs c.clients.desk.history) (clients-end g c) (each-client Begins c.clients.yielded c.clients.desk.history c.clients.invariant.begins)
