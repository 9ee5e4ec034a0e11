-- The labelled spans of a sentence in the order of their places.
use Rattle.std.specs.Prelude.{◌≡◌, ℕ, ◌-◌, ◌<◌, ◌≤◌, Bool, true, false, ◌&&◌, ◌==◌, List, [], ◌∷◌, ◌++◌, length, map, reverse, Option, Some, None, bytes_eq, slice_get, slice_index_or}
use Rattle.std.specs.List.{list_any}
use Rattle.od_extraction.specs.declared.mention.Labelled.{Labelled}
use Rattle.od_machine.specs.Machine.{state, targets}
use Rattle.od_machine.specs.Search.{thread}
use Rattle.od_machine.specs.declared.spans.SpanEntry.{SpanEntry}
use Rattle.od_machine.specs.declared.spans.SpanIndex.{SpanIndex}
use Rattle.od_machine.specs.declared.thread.Thread.{Thread}
use Rattle.od_matching.specs.Matching.Scan.{is_span_in}

-- the labelled span is there and has this label
abbrev pub names : Option Labelled → List ℕ → Bool
names None name = false
names (Some l) name = bytes_eq l.label name

-- the labelled span of this number has this label
abbrev pub names_at : List Labelled → ℕ → List ℕ → Bool
names_at labels number name = names (slice_get labels number) name

-- the entry is that of a span with this label, start and end
abbrev pub is_entry : List Labelled → List ℕ → ℕ → ℕ → SpanEntry → Bool
is_entry labels name i j entry =
    names_at labels entry.number name && (entry.start == i) && (entry.end == j)

-- the entries are those of the labelled spans
abbrev pub Lists : List Labelled → List SpanEntry → Type 0
Lists labels entries =
    (name : List ℕ) (i j : ℕ)
    → list_any (is_entry labels name i j) entries ≡ is_span_in labels name i j

-- the entries stand in the order of their starts, and those with one start in that of their ends
pub record AreInOrder (entries : List SpanEntry) : Type 0 where
  pub starts :
      (i j : ℕ) (d : SpanEntry) → i ≤ j → j < length entries
      → (slice_index_or entries i d).start ≤ (slice_index_or entries j d).start
  pub ends :
      (i j : ℕ) (d : SpanEntry) → i ≤ j → j < length entries
      → (slice_index_or entries i d).start ≡ (slice_index_or entries j d).start
      → (slice_index_or entries i d).end ≤ (slice_index_or entries j d).end

-- the entries are those of the labelled spans, in order
pub record IsIndexOf (labels : List Labelled) (entries : List SpanEntry) : Type 0 where
  pub lists : Lists labels entries
  pub order : AreInOrder entries

-- the index is that of the labelled spans
abbrev pub IsSpanIndex : List Labelled → SpanIndex → Type 0
IsSpanIndex labels index = IsIndexOf labels index.entries.items

-- the entries begin at a token or behind it, in order, and all spans that begin there are among them
pub record AreFrom (labels : List Labelled) (at : ℕ) (entries : List SpanEntry) : Type 0 where
  pub spans :
      (name : List ℕ) (j : ℕ)
      → list_any (is_entry labels name at j) entries ≡ is_span_in labels name at j
  pub starts : (k : ℕ) (d : SpanEntry) → k < length entries → at ≤ (slice_index_or entries k d).start
  pub order : AreInOrder entries

-- the span has the label, ends within the sentence and goes farther: a thread goes on behind it
pub record Taken
    (labels : List Labelled) (name : List ℕ) (tokens : ℕ) (entry : SpanEntry)
    (reach pc events next : ℕ) (old new : List Thread) : Type 0 where
  pub goes_to : next ≡ entry.end
  pub farther : reach < entry.end
  pub within : entry.end ≤ tokens
  pub named : names_at labels entry.number name ≡ true
  pub threads : new ≡ old ++ thread events (state pc true entry.end) ∷ []

-- the span has not the label, or does not end within the sentence or go farther: it is left out
pub record Left
    (labels : List Labelled) (name : List ℕ) (tokens : ℕ) (entry : SpanEntry) (reach next : ℕ)
    (old new : List Thread) : Type 0 where
  pub goes_to : next ≡ reach
  pub named : reach < entry.end → entry.end ≤ tokens → names_at labels entry.number name ≡ false
  pub threads : new ≡ old

-- none of the first i entries is that of a span with the label that goes farther
abbrev pub Passed : List Labelled → List ℕ → ℕ → ℕ → List SpanEntry → ℕ → ℕ → Type 0
Passed labels name at tokens entries i reach =
    (k : ℕ) (d : SpanEntry) → k < i → (j : ℕ) → reach < j → j ≤ tokens
    → is_entry labels name at j (slice_index_or entries k d) ≡ false

-- the stack has a thread behind each span with the label from a token up to `reach`, the longest first
abbrev pub Stacked : List Labelled → List ℕ → ℕ → ℕ → ℕ → ℕ → List Thread → List Thread → Type 0
Stacked labels name pc events at reach old new =
    reverse new
    ≡ map (thread events) (targets (is_span_in labels name) pc at (reach - at)) ++ reverse old
