-- One client more.
use Rattle.std.proofs.Common.{◌≡◌, ℕ, zero, suc, ◌+◌, ◌<◌, ◌≤◌, List, [], ◌∷◌, ◌++◌, length, take, drop, get_or, Bool, true, false, ◌&&◌, IsTrue, refl, sym, ap, ap₂, ◌∙◌, subst, arith, length-append}
use Rattle.std.proofs.lemmas.List.{take_more, take-append-drop}
use Rattle.std.proofs.lemmas.List.Sums.{get_or-le-sum_by}
use Rattle.od_command.specs.declared.history.Entry.{Entry}
use Rattle.od_order.specs.declared.script.Order.{Order}
use Rattle.od_order.specs.declared.script.TheConstants.{ORDERS}
use Rattle.od_order.specs.Scripts.{order_count}
use Rattle.od_text.specs.Lists.{Each}
use Rattle.od_model.specs.History.Legal.{mine}
use Rattle.od_model.specs.History.Orders.{Begins}
use Rattle.od_model.specs.Run.Clients.{EachClient, OfClients}
use Rattle.od_text.proofs.Lists.{Each-append}
use Rattle.od_model.proofs.Histories.Callers.{AreOf, EachFrom, EachFrom-append, EachFrom-later, EachFrom-none, each-client, mine-new}
use Rattle.od_desk.specs.Further.{Unfolded, Alone}

-- the callers of the entries are numbered from 1 up to a number
abbrev pub CallersTo : ℕ → List Entry → Type 0
CallersTo most history = Each (λ e. (1 ≤ e.caller) × (e.caller ≤ most)) history

pub fresh-caller : (caller : ℕ) (done : List (List Order)) (history : List Entry) → caller ≡ length done + 1 → CallersTo (length done) history → mine caller history ≡ []
fresh-caller caller done history is h = mine-new caller (length done) history (omega (arith, is)) h

callers-to : (caller most : ℕ) (es : List Entry) → 1 ≤ caller → caller ≤ most → AreOf caller es → CallersTo most es
callers-to caller most [] h k own = tt
callers-to caller most (e ∷ es) h k own = ((let is = own.0 in omega (arith, is, h), let is = own.0 in omega (arith, is, k)), callers-to caller most es h k own.1)

wider : (a b : ℕ) (es : List Entry) → a ≤ b → CallersTo a es → CallersTo b es
wider a b [] h k = tt
wider a b (e ∷ es) h k = ((k.0.0, let few = k.0.1 in omega (arith, few, h)), wider a b es h k.1)

pub callers-more : (caller : ℕ) (done : List (List Order)) (orders : List Order) (old new : List Entry) → caller ≡ length done + 1 → CallersTo (length done) old → Alone caller old new → CallersTo (length (done ++ orders ∷ [])) new
callers-more caller done orders old new is h k =
    let long : length (done ++ orders ∷ []) ≡ length done + 1 = length-append done (orders ∷ []) in
    subst (CallersTo (length (done ++ orders ∷ []))) (sym k.new_is)
    (Each-append (λ e. (1 ≤ e.caller) × (e.caller ≤ length (done ++ orders ∷ []))) old k.more
    (wider (length done) (length (done ++ orders ∷ [])) old (omega (arith, long)) h)
    (callers-to caller (length (done ++ orders ∷ [])) k.more (omega (arith, is)) (omega (arith, is, long)) k.callers))

-- all entries of a caller that had none are its further ones
own-whole : (U : List Order → List Entry → Type 0) (caller : ℕ) (orders : List Order) (old new : List Entry) → mine caller old ≡ [] → Unfolded U caller orders old new → U orders (mine caller new)
own-whole U caller orders old new fresh h = subst (U orders) (sym (h.own_are ∙ ap (λ l. l ++ h.own) fresh)) h.holds

pub clients-more : (U : List Order → List Entry → Type 0) (caller : ℕ) (done : List (List Order)) (orders : List Order) (old new : List Entry) → caller ≡ length done + 1 → CallersTo (length done) old → EachFrom U 0 done old → Alone caller old new → Unfolded U caller orders old new → EachFrom U 0 (done ++ orders ∷ []) new
clients-more U caller done orders old new is h each k own =
    let same : caller ≡ length done + 1 = is in
    let whole : U orders (mine (length done + 1) new) = subst (λ n. U orders (mine n new)) same (own-whole U caller orders old new (fresh-caller caller done old is h) own) in
    EachFrom-append U 0 (length done) done (orders ∷ []) new (omega arith)
    (subst (EachFrom U 0 done) (sym k.new_is) (EachFrom-later U 0 caller done old k.more (omega (arith, is)) k.callers each))
    (whole, tt)

-- the clients after those that were run have no entry
pub clients-cut : (caller : ℕ) (done : List (List Order)) (orders : List Order) (rest : List (List Order)) (old new : List Entry) → caller ≡ length done + 1 → CallersTo (length done) old → EachFrom Begins 0 done old → Alone caller old new → Unfolded Begins caller orders old new
    → EachClient Begins ((done ++ orders ∷ []) ++ rest) new
clients-cut caller done orders rest old new is h each alone own =
    let front = clients-more Begins caller done orders old new is h each alone own in
    let callers = callers-more caller done orders old new is h alone in
    let n : ℕ = length (done ++ orders ∷ []) in
    each-client Begins ((done ++ orders ∷ []) ++ rest) new
    (EachFrom-append Begins 0 n (done ++ orders ∷ []) rest new (omega arith) front (EachFrom-none n n rest new (omega arith) callers))

pub of-clients : (done rest : List (List Order)) (history : List Entry) → CallersTo (length done) history → OfClients (done ++ rest) history
of-clients done rest history h = wider (length done) (length (done ++ rest)) history (omega (arith, length-append done rest)) h

-- what is true of both is true of each
pub both-true : (a b : Bool) → IsTrue (a && b) → IsTrue a × IsTrue b
both-true true b h = (refl, h)
both-true false b h = absurd (cc)

-- ## Places in a list that a loop goes through

-- a client has no more orders than all clients together may have
pub orders-few : (clients : List (List Order)) (k : ℕ) (orders : List Order) → k < length clients → orders ≡ get_or clients k orders → order_count clients ≤ ORDERS → length orders ≤ ORDERS
orders-few clients k orders within is few =
    let one = get_or-le-sum_by (λ (os : List Order). length os) clients k orders within in
    let same : length orders ≡ length (get_or clients k orders) = ap (λ (os : List Order). length os) is in
    omega (arith, one, same, few)

-- the elements so far, the next one, and those behind it
pub split_at : {X : Type 0} (all done : List X) (x : X) → length done < length all → done ≡ take (length done) all → x ≡ get_or all (length done) x → all ≡ (done ++ x ∷ []) ++ drop (length done + 1) all
split_at all done x h front is =
    let more : take (length done + 1) all ≡ done ++ x ∷ [] = take_more all (length done) x h ∙ ap₂ (λ xs y. xs ++ y ∷ []) (sym front) (sym is) in
    sym (take-append-drop (length done + 1) all) ∙ ap (λ l. l ++ drop (length done + 1) all) more
