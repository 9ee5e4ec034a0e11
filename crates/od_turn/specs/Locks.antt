-- What clauses say of a lock, and of its passes and turns.
use Rattle.std.specs.Prelude.{ℕ, ◌≡◌, List, [], Option}
use Rattle.atomic_table.specs.Table.{Me}
use Rattle.atomic_table.specs.Seated.{TableId}
use Rattle.od_mark.specs.declared.mark.Mark.{Mark}
use Rattle.od_mark.specs.declared.origin.Origin.{Origin}
use Rattle.od_turn.specs.declared.view.PassView.{PassView}
use Rattle.od_turn.specs.declared.view.SeatView.{SeatView}
use Rattle.od_turn.specs.declared.pass.Pass.{Pass}
use Rattle.od_turn.specs.declared.turn.Turn.{Turn}
use Rattle.od_turn.specs.declared.turnstile.Turnstile.{Turnstile}
use Rattle.od_turn.specs.Rule.{first_view, IsLast}
use Rattle.od_turn.specs.Passes.{first_pass, held_marks, IsPassOf, AreNew}

module _ {V : Type 0} where
  -- which lock it is: no two locks have one
  abbrev pub lock_id : Turnstile V → TableId
  lock_id lock = lock.table.shared.table_id

  -- the number of its passes
  abbrev pub callers_of : Turnstile V → ℕ
  callers_of lock = lock.table.shared.key.callers

  -- the value that it was made with
  abbrev pub first_value : Turnstile V → V
  first_value lock = lock.table.shared.key.first.value

  -- the origin of that value
  abbrev pub start_origin : (V → Origin) → Turnstile V → Origin
  start_origin origin lock = origin (first_value lock)

  -- the marks of that value
  abbrev pub start_marks : (V → List Mark) → Turnstile V → List Mark
  start_marks marks lock = marks (first_value lock)

  -- the pass is one of this lock's, and in no turn
  abbrev pub IsPassAt : (V → Origin) → Turnstile V → Pass → Type 0
  IsPassAt origin lock p = IsPassOf (lock_id lock) (start_origin origin lock) p

  -- these are passes as they are made with the lock, numbered from 1
  abbrev pub AreNewAt : (V → List Mark) → (V → Origin) → Turnstile V → List Pass → Type 0
  AreNewAt marks origin lock ps = AreNew (start_origin origin lock) (start_marks marks lock) (lock_id lock) 1 ps

  -- the first seat of the lock, with as many passes
  abbrev pub first_seat : (V → List Mark) → (V → Origin) → Turnstile V → ℕ → Me (Option V) SeatView
  first_seat marks origin lock callers = (first_view (start_origin origin lock) (start_marks marks lock) callers, [])

  -- the marks that the value had when the turn began
  abbrev pub taken_marks : Turn V → List Mark
  taken_marks turn = held_marks turn.seat.me

  -- what the pass of a turn stands for
  abbrev pub turn_pass : Turn V → PassView
  turn_pass turn = first_pass turn.seat.me.0.passes

  -- the turn was taken from this lock with this pass
  abbrev pub IsTurnAt : (V → Origin) → Turnstile V → Pass → Turn V → Type 0
  IsTurnAt origin lock p turn =
      (turn.seat.table_id ≡ lock_id lock) × (p.badge.views ≡ []) × ((turn_pass turn).number ≡ p.number)
      × ((turn_pass turn).origin ≡ start_origin origin lock)

  -- what holds of the value at the end, and of all passes
  abbrev pub IsEnd : (V → List Mark) → (V → Origin) → Turnstile V → List PassView → V → Type 0
  IsEnd marks origin lock ps x =
      IsLast (callers_of lock) (start_origin origin lock) (start_marks marks lock) ps (origin x) (marks x)
