-- What the machine does with a program: states, those that follow one, and the first success.
use Rattle.std.specs.Prelude.{ℕ, zero, suc, ◌+◌, ◌-◌, ◌*◌, Bool, true, false, not, List, [], ◌∷◌, ◌++◌, length, Option, Some, None, if◌then◌else◌, ◌==◌, ◌&&◌, nat_lt, option_map, slice_get}
use Rattle.std.specs.Option.{option_or}
use Rattle.od_matching.specs.Matching.First.{Ending, accept, close, open_capture}
use Rattle.od_matching.specs.Matching.Derives.{holds_before}
use Rattle.od_machine.specs.declared.instruction.Instruction.{Instruction}
use Rattle.od_machine.specs.declared.instruction.Instruction.TheVariants.{Take, Jump, Peek, AtFirst, AtLast, Split, Skip, Turn, Turned, Again, Open, Close, Fail, Match}

-- what the machine is given of a sentence: its tokens, whether a row of truths holds at a token,
-- and the labelled spans
pub record Input : Type 0 where
  pub length : ℕ
  pub holds : ℕ → ℕ → Bool
  pub is_span : List ℕ → ℕ → ℕ → Bool

-- token i is there, and row n holds at it
abbrev pub fits_row : Input → ℕ → ℕ → Bool
fits_row w n i = nat_lt i w.length && w.holds n i

-- a test of the token at the place, or of the one before it, which must pass or must not
abbrev pub peeks : Input → ℕ → Bool → Bool → ℕ → Bool
peeks w n true true i = fits_row w n i
peeks w n true false i = not (fits_row w n i)
peeks w n false true i = holds_before (fits_row w n) i
peeks w n false false i = not (holds_before (fits_row w n) i)

-- an instruction, a place of the sentence, and whether a token was taken in the innermost further turn
pub record State : Type 0 where
  pub pc : ℕ
  pub taken : Bool
  pub at : ℕ

-- the state of these
abbrev pub state : ℕ → Bool → ℕ → State
state pc taken at = record { pc = pc; taken = taken; at = at }

-- another turn and none, the preferred one first
abbrev pub in_turn : Bool → State → State → List State
in_turn true turn leave = leave ∷ turn ∷ []
in_turn false turn leave = turn ∷ leave ∷ []

-- behind the spans from i that end at i + n or before, the longest first
abbrev pub targets : (ℕ → ℕ → Bool) → ℕ → ℕ → ℕ → List State
targets f pc i zero = []
targets f pc i (suc n) =
    (if f i (i + suc n) then state pc true (i + suc n) ∷ [] else []) ++ targets f pc i n

-- the states that follow, in the order of their choices
abbrev pub follow : Input → Instruction → ℕ → Bool → ℕ → List State
follow w (Take n) pc taken at = if fits_row w n at then state (pc + 1) true (at + 1) ∷ [] else []
follow w (Jump name) pc taken at = targets (w.is_span name) (pc + 1) at (w.length - at)
follow w (Peek ahead positive n) pc taken at =
    if peeks w n ahead positive at then state (pc + 1) taken at ∷ [] else []
follow w AtFirst pc taken at = if at == 0 then state (pc + 1) taken at ∷ [] else []
follow w AtLast pc taken at = if at == w.length then state (pc + 1) taken at ∷ [] else []
follow w (Split n) pc taken at = state (pc + 1) taken at ∷ state (pc + 1 + n) taken at ∷ []
follow w (Skip n) pc taken at = state (pc + 1 + n) taken at ∷ []
follow w (Turn lazy n) pc taken at =
    in_turn lazy (state (pc + 1) false at) (state (pc + 1 + n) taken at)
follow w Turned pc taken at = if taken then state (pc + 1) taken at ∷ [] else []
follow w (Again lazy n) pc taken at =
    if taken then in_turn lazy (state (pc - n) false at) (state (pc + 1) taken at) else []
follow w (Open name) pc taken at = state (pc + 1) taken at ∷ []
follow w Close pc taken at = state (pc + 1) taken at ∷ []
follow w Fail pc taken at = []
follow w Match pc taken at = []

-- the first success among the states
abbrev pub first_success : (State → Option Ending) → List State → Option Ending
first_success go [] = None
first_success go (s ∷ rest) = option_or (go s) (first_success go rest)

-- what an instruction makes of the first success among those that follow
abbrev pub made : Instruction → ℕ → Option Ending → Option Ending
made (Open name) at o = option_map (open_capture name at) o
made Close at o = option_map (close at) o
made Match at o = accept at
made _ at o = o

-- one step: what an instruction makes of the ways that go on from it; there is none where no instruction stands
abbrev pub visit : Input → (State → Option Ending) → Option Instruction → State → Option Ending
visit w go None s = None
visit w go (Some x) s = made x s.at (first_success go (follow w x s.pc s.taken s.at))

-- n where the test passes, and else 0
abbrev pub weight : Bool → ℕ → ℕ
weight true n = n
weight false n = 0

module _ (w : Input) (code : List Instruction) where
  -- the first success from a state within so many steps
  unfoldable pub run_within : ℕ → State → Option Ending
  run_within zero s = None
  run_within (suc n) s = visit w (run_within n) (slice_get code s.pc) s

  -- falls from a state to each that follows it
  unfoldable pub measure : State → ℕ
  measure s =
      (w.length - s.at) * (2 * (length code + 1))
      + (weight s.taken (length code + 1) + (length code - s.pc))

  -- the first success from the state
  unfoldable pub run : State → Option Ending
  run s = run_within (suc (measure s)) s
