-- The laws of derivations, scans, paths and sameness.
use Rattle.std.specs.Prelude.{◌≡◌, ◌↔◌, IsTrue, ℕ, ◌<◌, ◌≤◌, true, false, List, [], ◌∷◌, ◌++◌, length}
use Rattle.od_text.specs.Lists.{Each}
use Rattle.od_matching.specs.Matching.Derives.{World, derives}
use Rattle.od_matching.specs.Matching.Scan.{IsBest, Scans, world_in, scan_of}
use Rattle.od_matching.specs.Matching.Reach.{Set, nodes, leads, reached}
use Rattle.od_extraction.specs.Mentions.{same_mention}
use Rattle.od_extraction.specs.Spans.{MatchLiesWithin}
use Rattle.od_pattern.specs.Nullable.{is_nullable}
use Rattle.od_extraction.specs.declared.mention.Mention.{Mention}
use Rattle.od_pattern.specs.declared.path.Path.{Path}
use Rattle.od_document.specs.declared.sentence.Sentence.{Sentence}
use Rattle.od_extraction.specs.declared.mention.Labelled.{Labelled}
use Rattle.od_extraction.specs.declared.mention.Match.{Match}
use Rattle.od_extraction.specs.declared.mention.Part.{Part}
use Rattle.od_pattern.specs.declared.pattern.Surface.{Surface}

-- two derivations of a pattern from one place by the same choices have the same end and the same captures
abbrev pub SameChoicesAgree : Type 0
SameChoicesAgree =
    (w : World) (p : Surface) (i j j' : ℕ) (c c' : List Part) (t : List ℕ)
    → derives w p i j c t → derives w p i j' c' t → (j ≡ j') × (c ≡ c')

-- no list of choices of a pattern at a place is a proper front of another's
abbrev pub NoProperFront : Type 0
NoProperFront =
    (w : World) (p : Surface) (i j j' : ℕ) (c c' : List Part) (t u : List ℕ)
    → derives w p i j c t → derives w p i j' c' (t ++ u) → u ≡ []

-- a derivation takes no token outside the sentence
abbrev pub StaysWithin : Type 0
StaysWithin =
    (w : World) (p : Surface) (i j : ℕ) (c : List Part) (t : List ℕ)
    → i ≤ w.length → derives w p i j c t → (i ≤ j) × (j ≤ w.length)

-- a capture lies from i to j
abbrev pub IsInside : ℕ → ℕ → Part → Type 0
IsInside i j x = (i ≤ x.start) × (x.start ≤ x.end) × (x.end ≤ j)

-- the captures of a derivation lie within what it takes
abbrev pub CapturesStayWithin : Type 0
CapturesStayWithin =
    (w : World) (p : Surface) (i j : ℕ) (c : List Part) (t : List ℕ)
    → i ≤ w.length → derives w p i j c t → Each (IsInside i j) c

-- at a place there is at most one best derivation
abbrev pub OneBest : Type 0
OneBest =
    (w : World) (p : Surface) (i j j' : ℕ) (c c' : List Part)
    → IsBest w p i j c → IsBest w p i j' c' → (j ≡ j') × (c ≡ c')

-- where there is a derivation there is a best one
abbrev pub BestExists : Type 0
BestExists =
    (w : World) (p : Surface) (i j : ℕ) (c : List Part) (t : List ℕ) → i ≤ w.length → derives w p i j c t
    → (j' : ℕ) × (c' : List Part) × IsBest w p i j' c'

-- a derivation of a pattern that is not nullable takes a token
abbrev pub TakesWhereNotNullable : Type 0
TakesWhereNotNullable =
    (w : World) (p : Surface) (i j : ℕ) (c : List Part) (t : List ℕ) → is_nullable p ≡ false → i ≤ w.length
    → derives w p i j c t → i < j

-- from a place on, each match lies within so many tokens, and begins at or behind the end of the one before
abbrev pub AreApart : ℕ → ℕ → List Match → Type 0
AreApart count i [] = Unit {0}
AreApart count i (m ∷ ms) = (i ≤ m.span.start) × MatchLiesWithin count m × AreApart count m.span.end ms

-- the matches of a sentence are in order and share no token
abbrev pub ScanIsApart : Type 0
ScanIsApart =
    (p : Surface) (s : Sentence) (labels : List Labelled) → AreApart (length s.tokens) 0 (scan_of p s labels)

-- a sentence has no more matches than tokens
abbrev pub ScanIsShort : Type 0
ScanIsShort =
    (p : Surface) (s : Sentence) (labels : List Labelled) → length (scan_of p s labels) ≤ length s.tokens

-- the list that is computed has the matches of the whole sentence
abbrev pub ScanIsComputed : Type 0
ScanIsComputed =
    (p : Surface) (s : Sentence) (labels : List Labelled) → Scans (world_in s labels) p 0 (scan_of p s labels)

-- from a place on there is at most one list of matches
abbrev pub OneScan : Type 0
OneScan = (w : World) (p : Surface) (i : ℕ) (a b : List Match) → Scans w p i a → Scans w p i b → a ≡ b

-- from the tokens of a set a path leads to exactly those that are computed
abbrev pub ReachIsComputed : Type 0
ReachIsComputed =
    (s : Sentence) (p : Path) (marked : Set) (b : ℕ) → ((k : ℕ) → marked k ≡ true → k < nodes s)
    → (reached s p marked b ≡ true) ↔ ((a : ℕ) × (marked a ≡ true) × leads s p a b)

-- two mentions pass the test of sameness exactly where they are equal
abbrev pub SamenessIsEquality : Type 0
SamenessIsEquality = (a b : Mention) → IsTrue (same_mention a b) ↔ (a ≡ b)
