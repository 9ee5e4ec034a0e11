-- One order more of a caller.
use Rattle.std.proofs.Common.{◌≡◌, ℕ, List, Result, Ok, Err, Bool, true, false, refl}
use Rattle.std.specs.Prelude.{IsErrOf, OnOk}
use Rattle.od_order.specs.declared.script.Order.{Order}
use Rattle.od_model.specs.History.Orders.{Follows, Begins}
use Rattle.od_desk.specs.declared.desk.Stop.{Stop}
use Rattle.od_desk.specs.Desks.{DeskState}
use Rattle.od_desk.specs.Further.{Unfolded}
use Rattle.od_desk.specs.Stops.{is_cut}
use Rattle.od_serve.specs.Running.Went.{Went}

-- an order that was cut short
pub went-cut : {X : Type 0} (caller : ℕ) (orders : List Order) (result : Result X Stop) (stop : Stop) (old new : DeskState) → result ≡ Err stop → new.origin ≡ old.origin → Unfolded Begins caller orders old.history new.history → new.cut ≡ is_cut {X = X} (Err stop) → Went caller orders result old new
went-cut caller orders result stop old new is origin begun cut = rw is (record { origin = origin; followed = tt; begun = begun; cut = cut })
