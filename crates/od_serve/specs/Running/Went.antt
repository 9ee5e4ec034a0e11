-- How far the orders of a caller were followed at a desk.
use Rattle.std.specs.Prelude.{◌≡◌, ℕ, ◌+◌, ◌≤◌, List, length, Result, Bool, OnOk, IfOk, IsTrue, is_err}
use Rattle.od_command.specs.declared.history.Entry.{Entry}
use Rattle.od_order.specs.declared.script.Order.{Order}
use Rattle.od_io.specs.declared.streams.Failed.{Failed}
use Rattle.od_session.specs.declared.object.TheConstants.{SESSION_ROUNDS}
use Rattle.od_model.specs.History.Legal.{mine}
use Rattle.od_model.specs.History.Orders.{Follows, Begins}
use Rattle.od_desk.specs.declared.desk.Stop.{Stop}
use Rattle.od_desk.specs.Desks.{DeskState}
use Rattle.od_desk.specs.Further.{Unfolded}
use Rattle.od_desk.specs.Stops.{is_cut}

-- the orders were followed: to their end, or up to where a write failed or memory was refused
pub record Went {X : Type 0} (caller : ℕ) (orders : List Order) (result : Result X Stop) (old new : DeskState) : Type 0 where
  pub origin : new.origin ≡ old.origin
  pub followed : OnOk result (Unfolded Follows caller orders old.history new.history)
  pub begun : Unfolded Begins caller orders old.history new.history
  pub cut : new.cut ≡ is_cut result

-- they were followed as far as there was memory, which may be to their end; a write that failed is a fault
pub record WentFar (caller : ℕ) (orders : List Order) (result : Result Bool Failed) (old new : DeskState) : Type 0 where
  pub origin : new.origin ≡ old.origin
  pub followed : IfOk result (λ whole. IsTrue whole → Unfolded Follows caller orders old.history new.history)
  pub begun : Unfolded Begins caller orders old.history new.history
  pub cut : new.cut ≡ is_err result

-- the number of the caller's next call, after an order that began with this one
pub record IsNextCall (caller call : ℕ) (history : List Entry) (next : ℕ) : Type 0 where
  pub is : next ≡ length (mine caller history) + 1
  pub few : next ≤ call + SESSION_ROUNDS + 1
