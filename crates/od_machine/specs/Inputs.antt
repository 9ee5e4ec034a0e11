-- The machine's input, of the table and the labelled spans that it is lent.
use Rattle.std.specs.Prelude.{reverse, ◌++◌, option_to_list, ◌≡◌, ℕ, suc, ◌+◌, ◌≤◌, Bool, true, false, List, [], ◌∷◌, Option, Some, None, slice_get, slice_index_or}
use Rattle.od_matching.specs.Matching.First.{Ending, accept}
use Rattle.od_matching.specs.Matching.Derives.{World, fits_token}
use Rattle.od_matching.specs.Matching.Scan.{is_span_in}
use Rattle.od_machine.specs.Machine.{Input, fits_row, run, state}
use Rattle.od_machine.specs.Search.{replay, Searching, FailFrom}
use Rattle.od_machine.specs.declared.instruction.Instruction.{Instruction}
use Rattle.od_machine.specs.declared.points.Points.{Points}
use Rattle.od_machine.specs.declared.thread.Thread.{Thread}
use Rattle.od_machine.specs.declared.thread.Event.{Event}
use Rattle.od_machine.specs.declared.thread.Step.{Step}
use Rattle.od_machine.specs.declared.thread.Step.TheVariants.{AtEnd, Goes}
use Rattle.od_extraction.specs.declared.mention.Labelled.{Labelled}
use Rattle.od_asked.specs.Asked.{Asked, at_tokens, at_edges}

-- a sentence with some rows of truths
abbrev pub input_of : World → (ℕ → ℕ → Bool) → Input
input_of u holds = record { length = u.length; holds = holds; is_span = u.is_span }

-- row n tells where this holds, if it is a constraint at the tokens
abbrev pub TellsOf : World → (ℕ → ℕ → Bool) → ℕ → Asked → Type 0
TellsOf u holds n (at_tokens c) = (i : ℕ) → fits_row (input_of u holds) n i ≡ fits_token u c i
TellsOf u holds n (at_edges value) = Unit {0}

-- from row n on, the rows tell where what is asked holds
abbrev pub Tells : World → (ℕ → ℕ → Bool) → ℕ → List Asked → Type 0
Tells u holds n [] = Unit {0}
Tells u holds n (a ∷ asked) = TellsOf u holds n a × Tells u holds (suc n) asked

-- a truth that is not there is false
abbrev pub truth_in : Option (List Bool) → ℕ → Bool
truth_in None at = false
truth_in (Some row) at = slice_index_or row at false

-- the truth of a row at a token
abbrev pub holds_in : List (List Bool) → ℕ → ℕ → Bool
holds_in rows n at = truth_in (slice_get rows n) at

-- what the machine is given: a number of tokens, rows of truths, and labelled spans
abbrev pub given : ℕ → List (List Bool) → List Labelled → Input
given tokens rows labels =
    record { length = tokens; holds = holds_in rows; is_span = is_span_in labels }

-- the thread that goes on, if there is one
abbrev pub ahead : Step → List Thread
ahead AtEnd = []
ahead (Goes next) = option_to_list next

-- the search after a thread was taken up
abbrev pub After :
    Input → List Instruction → Points → ℕ → Option Ending → Step → ℕ
    → List Bool → List Event → List Thread → Type 0
After w code points from goal AtEnd at seen trail ts =
    (goal ≡ replay code trail (accept at))
    × (from ≤ at) × (at ≤ w.length) × FailFrom w code points (at + 1) seen
After w code points from goal (Goes next) at seen trail ts =
    Searching w code points from goal seen trail (option_to_list next ++ ts)

-- whatever was searched for before a thread was taken up is searched for after it
abbrev pub TakesUp :
    Input → List Instruction → Points → Thread → Step → List Bool → List Event → List Thread
    → List Bool → List Event → List Thread → Type 0
TakesUp w code points from step seen trail ts seen' trail' ts' =
    (a : ℕ) (goal : Option Ending)
    → Searching w code points a goal seen trail (from ∷ reverse ts)
    → After w code points a goal step from.at seen' trail' (reverse ts')

-- from the first instruction at the place no way begins, whatever else the sentence has
abbrev pub NeverBegins : List (List Bool) → List Instruction → ℕ → Type 0
NeverBegins rows code at =
    (tokens : ℕ) (labels : List Labelled)
    → run (given tokens rows labels) code (state 0 false at) ≡ None

-- that is so if no way goes on from the instruction pc, since what stands before it takes nothing
abbrev pub BeginsAt : List (List Bool) → List Instruction → ℕ → ℕ → Type 0
BeginsAt rows code at pc =
    (tokens : ℕ) (labels : List Labelled)
    → run (given tokens rows labels) code (state pc false at) ≡ None
    → run (given tokens rows labels) code (state 0 false at) ≡ None

-- what an attempt comes to
abbrev pub outcome : List Instruction → List Event → Option ℕ → Option Ending
outcome code trail None = None
outcome code trail (Some end) = replay code trail (accept end)

-- behind where an attempt came to, each marked state fails
abbrev pub FailBehind :
    Input → List Instruction → Points → ℕ → Option ℕ → List Bool → Type 0
FailBehind w code points from None seen = FailFrom w code points from seen
FailBehind w code points from (Some end) seen =
    (from ≤ end) × (end ≤ w.length) × FailFrom w code points (end + 1) seen

-- another turn and none, the preferred one first
abbrev pub choose_threads : Bool → Thread → Thread → List Thread → List Thread
choose_threads true turn leave ts = leave ∷ turn ∷ ts
choose_threads false turn leave ts = turn ∷ leave ∷ ts
