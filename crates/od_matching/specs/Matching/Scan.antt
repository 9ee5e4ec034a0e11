-- The best derivation at a place, and the matches of a pattern one after another.
use Rattle.std.specs.Prelude.{ℕ, zero, suc, ◌+◌, ◌-◌, ◌<◌, ◌≤◌, Bool, ◌&&◌, ◌==◌, nat_lt, if◌then◌else◌, List, [], ◌∷◌, length, Option, Some, None, bytes_eq}
use Rattle.std.specs.List.{list_any}
use Rattle.od_matching.specs.Matching.Choice.{Before}
use Rattle.od_matching.specs.Matching.First.{Ending, accept}
use Rattle.od_matching.specs.Matching.Derives.{World, derives, first}
use Rattle.od_asked.specs.Holds.{holds}
use Rattle.od_document.specs.declared.sentence.Sentence.{Sentence}
use Rattle.od_extraction.specs.declared.mention.Labelled.{Labelled}
use Rattle.od_extraction.specs.declared.mention.Match.{Match}
use Rattle.od_extraction.specs.declared.mention.Part.{Part}
use Rattle.od_pattern.specs.declared.pattern.Surface.{Surface}

-- the derivation at i whose choices come first ends at j with these captures
pub record IsBest (w : World) (p : Surface) (i j : ℕ) (c : List Part) : Type 0 where
  pub choices : List ℕ
  pub goes : derives w p i j c choices
  pub least : (j' : ℕ) (c' : List Part) (t : List ℕ) → derives w p i j' c' t → Before t choices → ⊥

-- no match begins at the place: there is no derivation, or the best one takes no token
abbrev pub NoMatchAt : World → Surface → ℕ → Type 0
NoMatchAt w p i = (j : ℕ) (c : List Part) → IsBest w p i j c → j ≤ i

-- the match is the best derivation at its start, and the first from place i on
pub record IsNext (w : World) (p : Surface) (i : ℕ) (m : Match) : Type 0 where
  pub from : i ≤ m.span.start
  pub inside : m.span.start < w.length
  pub takes : m.span.start < m.span.end
  pub none_before : (k : ℕ) → i ≤ k → k < m.span.start → NoMatchAt w p k
  pub best : IsBest w p m.span.start m.span.end m.captures

-- the matches from place i on
abbrev pub Scans : World → Surface → ℕ → List Match → Type 0
Scans w p i [] = (k : ℕ) → i ≤ k → k < w.length → NoMatchAt w p k
Scans w p i (m ∷ ms) = IsNext w p i m × Scans w p m.span.end ms

-- the match that takes the tokens from a start to before an end, with these captures
abbrev pub match_of : ℕ → ℕ → List Part → Match
match_of start end captures = record { span = record { start = start; end = end }; captures = captures }

-- the search goes on behind a match that took a token, and else at the next place
abbrev pub take_or_go : (ℕ → List Match) → ℕ → Option Ending → List Match
take_or_go on i None = on (i + 1)
take_or_go on i (Some o) = if nat_lt i o.end then match_of i o.end o.captures ∷ on o.end else on (i + 1)

-- the same list, computed, looking at no more than n places
unfoldable pub scan_from : World → Surface → ℕ → ℕ → List Match
scan_from w p zero i = []
scan_from w p (suc n) i =
    if nat_lt i w.length then take_or_go (scan_from w p n) i (first w p accept i) else []

-- the matches from place i on, computed
abbrev pub scan_at : World → Surface → ℕ → List Match
scan_at w p i = scan_from w p (w.length - i) i

-- one of the labelled spans has this label, start and end
abbrev pub is_span_in : List Labelled → List ℕ → ℕ → ℕ → Bool
is_span_in labels name i j =
    list_any (λ l. bytes_eq l.label name && (l.span.start == i) && (l.span.end == j)) labels

-- what a pattern asks of a sentence and the labelled spans on it
abbrev pub world_in : Sentence → List Labelled → World
world_in s labels = record { length = length s.tokens; holds = holds s; is_span = is_span_in labels }

-- the matches of a pattern in a sentence with the labelled spans on it
unfoldable pub scan_of : Surface → Sentence → List Labelled → List Match
scan_of p s labels = scan_from (world_in s labels) p (length s.tokens) 0
