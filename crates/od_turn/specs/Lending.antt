-- What a turn lends.
use Rattle.std.specs.Borrow.{Lends, MutBor, Fml}
use denote.RattleType.{RattleType}
use Rattle.od_turn.specs.declared.turn.Turn.{Turn}
use Rattle.od_turn.specs.contracts.turn.Turn.{the_row}

abbrev pub with_value : {V : Type 0} → Turn V → V → Turn V
with_value t w = record t { value = w }

-- the turn ends with the last value behind the reference
abbrev pub LendsValue : (R : RattleType) → MutBor (Turn R.Denot) → MutBor R.Denot → Fml
LendsValue R t r = Lends (the_row R) R t r (with_value t.now)
