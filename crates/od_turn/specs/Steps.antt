-- What each kind of step tells the seat: the number found, and what the seat knows and holds afterwards.
use Rattle.std.specs.Prelude.{ℕ, ◌≡◌, ◌==◌, ◌%◌, ◌^◌, List, [], ◌∷◌, ◌++◌, map, Option, Some, MatchBool}
use Rattle.atomic_table.specs.Table.{Me, Step}
use Rattle.od_text.specs.Lists.{Each}
use Rattle.od_mark.specs.declared.mark.Mark.{Mark}
use Rattle.od_mark.specs.declared.origin.Origin.{Origin}
use Rattle.od_turn.specs.declared.view.PassView.{PassView}
use Rattle.od_turn.specs.declared.view.SeatView.{SeatView}
use Rattle.od_turn.specs.declared.view.Stage.{Stage}
use Rattle.od_turn.specs.declared.view.Stage.TheVariants.{Idle, Waiting, InTurn}
use Rattle.od_turn.specs.Rule.{Continues, NamesOther}

abbrev pub at_stage : List PassView → Stage → SeatView
at_stage ps stage = record { passes = ps; stage = stage }

module _ {S : Type 0} where
  -- drawing: the seat waits with a ticket, of which the word had the last 64 bits
  abbrev pub draws : Step S → Me S SeatView → ℕ → Me S SeatView → Type 0
  draws st m found m' = (t : ℕ) × (m' ≡ (at_stage m.0.passes (Waiting t), m.1)) × (found ≡ t % 2 ^ 64)

  -- serving: the seat has no ticket and no slot
  abbrev pub serves : Step S → Me S SeatView → ℕ → Me S SeatView → Type 0
  serves st m found m' = m' ≡ (at_stage m.0.passes Idle, [])

module _ {V : Type 0} (marks : V → List Mark) (origin : V → Origin) where
  -- the value has the pass's origin; the pass's marks begin the value's, and the others name other callers
  abbrev pub Precedes : V → PassView → Type 0
  Precedes x p = (origin x ≡ p.origin) × Continues (NamesOther p.number) p.seen (marks x)

  -- the seat comes into its turn, with the slot and the value in it
  abbrev pub Comes : ℕ → Me (Option V) SeatView → Me (Option V) SeatView → Type 0
  Comes t m m' =
      (x : V) × (m' ≡ (at_stage m.0.passes (InTurn t (marks x)), (0, Some x) ∷ m.1))
      × Each (Precedes x) m.0.passes

  -- looking: where the number found is the ticket's the seat comes into its turn, else it waits on
  abbrev pub looks : Step (Option V) → Me (Option V) SeatView → ℕ → Me (Option V) SeatView → Type 0
  looks st m found m' =
      (t : ℕ) → m.0.stage ≡ Waiting t → MatchBool (found == t % 2 ^ 64) (Comes t m m') (m' ≡ m)

-- the stage of a seat whose turn left these marks
abbrev pub restaged : List Mark → Stage → Stage
restaged log Idle = Idle
restaged log (Waiting t) = Waiting t
restaged log (InTurn t held) = InTurn t log

-- the pass once it has seen these marks
abbrev pub has_seen : List Mark → PassView → PassView
has_seen log p = record { number = p.number; origin = p.origin; seen = log }

abbrev pub raised_view : List Mark → SeatView → SeatView
raised_view log v = at_stage (map (has_seen log) v.passes) (restaged log v.stage)

-- raising the count: the seat has seen the marks of the value that is in its slot
abbrev pub raises : {V : Type 0} → (V → List Mark)
    → Step (Option V) → Me (Option V) SeatView → ℕ → Me (Option V) SeatView → Type 0
raises {V} marks st m found m' =
    (x : V) → m.1 ≡ (0, Some x) ∷ [] → m' ≡ (raised_view (marks x) m.0, m.1)

abbrev pub but_first : List PassView → List PassView
but_first [] = []
but_first (p ∷ ps) = ps

abbrev pub only_first : List PassView → List PassView
only_first [] = []
only_first (p ∷ ps) = p ∷ []

-- splitting: the seat keeps all passes but the first
abbrev pub kept_back : SeatView → SeatView
kept_back v = at_stage (but_first v.passes) v.stage

-- splitting: the new seat has the first pass
abbrev pub issued : SeatView → SeatView
issued v = at_stage (only_first v.passes) Idle

-- joining: the seat has the passes of both, those of the other first
abbrev pub collected : SeatView → SeatView → SeatView
collected v w = at_stage (w.passes ++ v.passes) v.stage

-- joining: the other seat has none
abbrev pub spent_view : SeatView
spent_view = at_stage [] Idle
