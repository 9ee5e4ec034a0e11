-- Keepers in memory, as contracts see them.
use Rattle.std.specs.Prelude.{ℕ, List, Bool, true, false, find, Option, Result, Ok, Err, ◌==◌}
use Rattle.od_row.specs.declared.rows.Rows.{Rows}
use Rattle.od_keeper.specs.declared.keeper.KeepFault.{KeepFault}
use Rattle.od_keeper.specs.declared.keeper.KeepFault.TheVariants.{Failed, NoMemory}
use Rattle.od_keeper.specs.declared.memory.KeeperCall.{KeeperCall}

-- a keeper in memory
pub record MemoryState : Type 0 where
  pub rows : Rows
  -- how many puts were made, at most 2 ^ 64 - 1: the number of the next one
  pub puts : ℕ
  -- the numbers of the puts that fail, each with whether its row is kept
  pub failing : List (ℕ × Bool)
  -- its calls, in their order
  pub calls : List KeeperCall
  -- how many calls failed
  pub faults : ℕ

-- how the put of this number fails, where it does
abbrev pub listed : List (ℕ × Bool) → ℕ → Option (ℕ × Bool)
listed failing put = find (λ f. f.0 == put) failing

-- the call failed
abbrev pub is_failed : {X : Type 0} → Result X KeepFault → Bool
is_failed (Ok x) = false
is_failed (Err Failed) = true
is_failed (Err NoMemory) = false
