-- Why a call at a desk ended early.
use Rattle.std.specs.Prelude.{Result, Ok, Err, Bool, true, false}
use Rattle.od_desk.specs.declared.desk.Stop.{Stop}
use Rattle.od_desk.specs.declared.desk.Stop.TheVariants.{WriteFault, NoMemory}

-- a write failed
abbrev pub is_cut : {X : Type 0} → Result X Stop → Bool
is_cut (Ok value) = false
is_cut (Err WriteFault) = true
is_cut (Err NoMemory) = false
