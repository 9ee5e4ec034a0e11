-- The ordered list of threads, and what it still has to say.
use Rattle.std.specs.Prelude.{◌≡◌, ℕ, ◌+◌, ◌*◌, ◌<◌, ◌≤◌, ◌⊎◌, Bool, true, false, List, [], ◌∷◌, length, take, set, Option, Some, None, option_map, slice_get, slice_index_or}
use Rattle.std.specs.Option.{option_or}
use Rattle.od_matching.specs.Matching.First.{Ending, close, open_capture}
use Rattle.od_machine.specs.Machine.{Input, State, state, weight, measure, run}
use Rattle.od_machine.specs.declared.instruction.Instruction.{Instruction}
use Rattle.od_machine.specs.declared.instruction.Instruction.TheVariants.{Open, Close}
use Rattle.od_machine.specs.declared.points.Points.{Points}
use Rattle.od_machine.specs.declared.thread.Thread.{Thread}
use Rattle.od_machine.specs.declared.thread.Event.{Event}
use Rattle.od_machine.specs.declared.thread.Event.TheVariants.{Opened, Closed}

-- the state of a thread
abbrev pub state_of : Thread → State
state_of t = state t.pc t.taken t.at

-- the thread in a state, to which so many events led
abbrev pub thread : ℕ → State → Thread
thread n s = record { pc = s.pc; taken = s.taken; at = s.at; events = n }

-- the name that the instruction opens
abbrev pub name_in : Option Instruction → List ℕ
name_in (Some (Open name)) = name
name_in _ = []

-- what an event makes of the way behind it
abbrev pub act : List Instruction → Event → Ending → Ending
act code (Opened pc at) = open_capture (name_in (slice_get code pc)) at
act code (Closed at) = close at

-- what the events make of what comes after them
unfoldable pub replay : List Instruction → List Event → Option Ending → Option Ending
replay code [] o = o
replay code (e ∷ es) o = option_map (act code e) (replay code es o)

-- what an instruction leaves on the trail
abbrev pub events_of : Instruction → ℕ → ℕ → List Event
events_of (Open name) pc at = Opened pc at ∷ []
events_of Close pc at = Closed at ∷ []
events_of _ pc at = []

-- the number of a state among the marks: two for each of so many meeting points at each place
abbrev pub index : ℕ → ℕ → State → ℕ
index count slot s = s.at * (2 * count) + (weight s.taken count + slot)

-- the marks once a state was taken up, which is marked where ways can meet; it is taken up
-- if it was not marked before
abbrev pub TakesMark : ℕ → Option ℕ → State → Bool → List Bool → List Bool → Type 0
TakesMark count None s taken_up old new = (taken_up ≡ true) × (new ≡ old)
TakesMark count (Some slot) s true old new =
    (slice_index_or old (index count slot s) false ≡ false)
    × (new ≡ set old (index count slot s) true)
TakesMark count (Some slot) s false old new =
    (slice_index_or old (index count slot s) false ≡ true) × (new ≡ old)

-- each thread's share of the trail is a front of that of the one before it
abbrev pub Fits : ℕ → List Thread → Type 0
Fits n [] = Unit {0}
Fits n (t ∷ ts) = (t.events ≤ n) × Fits t.events ts

-- the threads stand at places from a to l
abbrev pub Inside : ℕ → ℕ → List Thread → Type 0
Inside a l [] = Unit {0}
Inside a l (t ∷ ts) = (a ≤ t.at) × (t.at ≤ l) × Inside a l ts

module _ (w : Input) (code : List Instruction) where
  -- the first success among the threads
  unfoldable pub pending : List Event → List Thread → Option Ending
  pending trail [] = None
  pending trail (t ∷ ts) =
      option_or (replay code (take t.events trail) (run w code (state_of t))) (pending (take t.events trail) ts)

  -- some way leads on from the state to the end
  abbrev pub Succeeds : State → Type 0
  Succeeds s = (o : Ending) × (run w code s ≡ Some o)

  -- some thread succeeds, and it and those before it have a measure below m
  abbrev pub Below : ℕ → List Thread → Type 0
  Below m [] = ⊥
  Below m (t ∷ ts) = (measure w code (state_of t) < m) × (Succeeds (state_of t) ⊎ Below m ts)

  module _ (points : Points) where
    -- a state from the place a on, where ways can meet, which was taken up before
    pub record Marked (a : ℕ) (seen : List Bool) (s : State) : Type 0 where
      pub slot : ℕ
      pub meets : slice_get points.slots s.pc ≡ Some (Some slot)
      pub from : a ≤ s.at
      pub within : s.at ≤ w.length
      pub mark : slice_index_or seen (index points.count slot s) false ≡ true

    -- each state from the place a on that is marked and succeeds is answered for by the threads
    abbrev pub Covers : ℕ → List Bool → List Thread → Type 0
    Covers a seen ts = (s : State) → Marked a seen s → Succeeds s → Below (measure w code s) ts

    -- each state from the place a on that is marked fails
    abbrev pub FailFrom : ℕ → List Bool → Type 0
    FailFrom a seen = Covers a seen []

    -- the search for `goal`, the preferred way from the place a
    pub record Searching
        (a : ℕ) (goal : Option Ending) (seen : List Bool) (trail : List Event) (ts : List Thread)
        : Type 0 where
      pub value : pending trail ts ≡ goal
      pub covers : Covers a seen ts
      pub fits : Fits (length trail) ts
      pub inside : Inside a w.length ts
