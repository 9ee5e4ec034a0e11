-- The preferred way through a pattern, by trying one way after another.
-- It knows nothing of lists of choices.
use Rattle.std.specs.Prelude.{ℕ, zero, suc, ◌+◌, ◌-◌, Bool, true, false, List, [], ◌∷◌, ◌++◌, Option, Some, None, if◌then◌else◌, nat_lt, option_map}
use Rattle.std.specs.Option.{option_or}
use Rattle.od_matching.specs.Matching.Choice.{capture}
use Rattle.od_extraction.specs.declared.mention.Part.{Part}

-- where a way ends, with the captures that begin on it, and the ends of the captures that began before
pub record Ending : Type 0 where
  pub end : ℕ
  pub captures : List Part
  pub ends : List ℕ

-- what follows a piece: from a place, the preferred way on
abbrev pub Continuation : Type 0
Continuation = ℕ → Option Ending

-- a piece: from what follows it, the preferred way through both
abbrev pub Trial : Type 0
Trial = Continuation → Continuation

-- nothing follows
abbrev pub accept : Continuation
accept i = Some (record { end = i; captures = []; ends = [] })

-- captures that begin before those of the way
abbrev pub add : List Part → Ending → Ending
add c o = record { end = o.end; captures = c ++ o.captures; ends = o.ends }

-- a capture ends at j
abbrev pub close : ℕ → Ending → Ending
close j o = record { end = o.end; captures = o.captures; ends = j ∷ o.ends }

-- a capture begins at i, and ends at the first of the ends
abbrev pub opened : List ℕ → ℕ → ℕ → List Part → List ℕ → Ending
opened name i end captures [] = record { end = end; captures = captures; ends = [] }
opened name i end captures (j ∷ ends) =
    record { end = end; captures = capture name i j ∷ captures; ends = ends }

-- the same, of a way
abbrev pub open_capture : List ℕ → ℕ → Ending → Ending
open_capture name i o = opened name i o.end o.captures o.ends

-- a token that passes the test
abbrev pub first_one : (ℕ → Bool) → Trial
first_one test k i = if test i then k (i + 1) else None

-- a place that passes the test
abbrev pub first_test : (ℕ → Bool) → Trial
first_test test k i = if test i then k i else None

-- the spans from i that end at i + n or before, the longest first
abbrev pub first_down : (ℕ → ℕ → Bool) → Continuation → ℕ → ℕ → Option Ending
first_down is_span k i zero = None
first_down is_span k i (suc n) =
    option_or (if is_span i (i + suc n) then k (i + suc n) else None) (first_down is_span k i n)

-- the spans from i within so many tokens
abbrev pub first_jump : ℕ → (ℕ → ℕ → Bool) → Trial
first_jump length is_span k i = first_down is_span k i (length - i)

-- no way at all
abbrev pub first_never : Trial
first_never k i = None

-- one after the other
abbrev pub first_then : Trial → Trial → Trial
first_then f g k i = f (g k) i

-- the one, and else the other
abbrev pub first_or : Trial → Trial → Trial
first_or f g k i = option_or (f k i) (g k i)

-- taking at least one token
abbrev pub first_took : Trial → Trial
first_took f k i = f (λ j. if nat_lt i j then k j else None) i

-- what is taken is a capture
abbrev pub first_named : List ℕ → Trial → Trial
first_named name f k i = option_map (open_capture name i) (f (λ j. option_map (close j) (k j)) i)

-- n times, and then g
abbrev pub first_times : Trial → ℕ → Trial → Trial
first_times f zero g = g
first_times f (suc n) g = first_then f (first_times f n g)

-- another turn first, or to stop first
abbrev pub prefer : Bool → Option Ending → Option Ending → Option Ending
prefer true turn leave = option_or leave turn
prefer false turn leave = option_or turn leave

-- up to n further turns
abbrev pub first_further : Bool → Trial → ℕ → Trial
first_further lazy f zero k i = k i
first_further lazy f (suc n) k i =
    prefer lazy (first_then (first_took f) (first_further lazy f n) k i) (k i)

-- all the further turns that a sentence of so many tokens has room for
abbrev pub first_endless : ℕ → Bool → Trial → Trial
first_endless length lazy f k i = first_further lazy f (suc (length - i)) k i
