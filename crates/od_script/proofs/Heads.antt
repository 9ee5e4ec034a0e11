-- Clients and their orders.
use Rattle.std.proofs.Common.{◌≡◌, ℕ, zero, suc, ◌+◌, ◌<◌, List, [], ◌∷◌, ◌++◌, length, get_or, slice_set, ap, arith, length-append}
use Rattle.std.proofs.lemmas.List.Sums.{sum_by-cons}
use Rattle.od_order.specs.declared.script.Order.{Order}
use Rattle.od_order.specs.Scripts.{order_count, with_order}

-- the last client with one order more
pub ordered : (x : Order) (orders : List Order) (clients : List (List Order)) (k : ℕ) → length clients ≡ suc k → orders ≡ get_or clients k orders
    → slice_set clients k (orders ++ x ∷ []) ≡ with_order x clients
ordered x orders [] k last is = absurd (omega arith)
ordered x orders (c ∷ []) zero last is = ap (λ (os : List Order). (os ++ x ∷ []) ∷ []) is
ordered x orders (c ∷ []) (suc k) last is = absurd (omega arith)
ordered x orders (c ∷ d ∷ more) zero last is = absurd (omega arith)
ordered x orders (c ∷ d ∷ more) (suc k) last is = ap (λ (l : List (List Order)). c ∷ l) (ordered x orders (d ∷ more) k (omega arith) is)

-- one order is counted
pub counted : (x : Order) (clients : List (List Order)) → 0 < length clients → order_count (with_order x clients) ≡ order_count clients + 1
counted x [] some = absurd (omega arith)
counted x (c ∷ []) some = let e = length-append c (x ∷ []) in omega (arith, e)
counted x (c ∷ d ∷ more) some =
    let size : List Order → ℕ = λ orders. length orders in
    let e : order_count (with_order x (d ∷ more)) ≡ order_count (d ∷ more) + 1 = counted x (d ∷ more) (omega arith) in
    let now = sum_by-cons size c (with_order x (d ∷ more)) in
    let before = sum_by-cons size c (d ∷ more) in
    omega (arith, e, now, before)
