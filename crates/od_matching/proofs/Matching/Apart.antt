-- The matches of a scan are in order and share no token, so that there are no more than tokens.
use Rattle.std.proofs.Common.{ℕ, ◌+◌, ◌<◌, ◌≤◌, List, [], ◌∷◌, length, arith}
use Rattle.od_text.specs.Lists.{Each}
use Rattle.od_text.proofs.Lists.{Each-weaker}
use Rattle.od_matching.specs.Matching.Derives.{World}
use Rattle.od_matching.specs.Matching.Laws.{IsInside, AreApart}
use Rattle.od_matching.specs.Matching.Scan.{IsNext, Scans, scan_of, world_in}
use Rattle.od_matching.proofs.Matching.Derived.{within}
use Rattle.od_matching.proofs.Matching.Enclosed.{encloses}
use Rattle.od_matching.proofs.Matching.Scans.{scans_of}
use Rattle.od_document.specs.declared.sentence.Sentence.{Sentence}
use Rattle.od_extraction.specs.Spans.{PartLiesWithin, MatchLiesWithin}
use Rattle.od_extraction.specs.declared.mention.Labelled.{Labelled}
use Rattle.od_extraction.specs.declared.mention.Match.{Match}
use Rattle.od_extraction.specs.declared.mention.Part.{Part}
use Rattle.od_pattern.specs.declared.pattern.Surface.{Surface}

module _ (w : World) (p : Surface) where
  -- a match lies within the sentence, and its captures within its tokens
  pub next-lies : (i : ℕ) (m : Match) → IsNext w p i m → MatchLiesWithin w.length m
  next-lies i m next =
      let begins : m.span.start < w.length = next.inside in
      let from : m.span.start ≤ w.length = omega arith in
      let goes = next.best.goes in
      let ends = within w p m.span.start m.span.end m.captures next.best.choices from goes in
      let inside = encloses w p m.span.start m.span.end m.captures next.best.choices from goes in
      let weaker : (x : Part) → IsInside m.span.start m.span.end x → PartLiesWithin w.length x = λ x k. let a : x.end ≤ m.span.end = k.2 in let b : m.span.end ≤ w.length = ends.1 in (k.1, omega arith) in
      record { takes = next.takes; ends = ends.1; captures = Each-weaker (IsInside m.span.start m.span.end) (PartLiesWithin w.length) weaker m.captures inside }

  -- each match lies behind the one before
  pub scans-apart : (i : ℕ) (ms : List Match) → Scans w p i ms → AreApart w.length i ms
  scans-apart i [] s = tt
  scans-apart i (m ∷ ms) (next, rest) = (next.from, next-lies i m next, scans-apart m.span.end ms rest)

-- matches that are apart are no more than the tokens from the first place on
pub apart-few : (count i : ℕ) (ms : List Match) → i ≤ count → AreApart count i ms → i + length ms ≤ count
apart-few count i [] h a = omega arith
apart-few count i (m ∷ ms) h a =
    let from : i ≤ m.span.start = a.0 in
    let takes : m.span.start < m.span.end = a.1.takes in
    let rest : m.span.end + length ms ≤ count = apart-few count m.span.end ms a.1.ends a.2 in
    omega arith

-- each of them lies within the tokens
pub apart-lie : (count i : ℕ) (ms : List Match) → AreApart count i ms → Each (MatchLiesWithin count) ms
apart-lie count i [] a = tt
apart-lie count i (m ∷ ms) a = (a.1, apart-lie count m.span.end ms a.2)

pub scan-apart : (p : Surface) (s : Sentence) (labels : List Labelled) → AreApart (length s.tokens) 0 (scan_of p s labels)
scan-apart p s labels = scans-apart (world_in s labels) p 0 (scan_of p s labels) (scans_of p s labels)

pub scan-short : (p : Surface) (s : Sentence) (labels : List Labelled) → length (scan_of p s labels) ≤ length s.tokens
scan-short p s labels = let h : 0 + length (scan_of p s labels) ≤ length s.tokens = apart-few (length s.tokens) 0 (scan_of p s labels) (omega arith) (scan-apart p s labels) in omega arith
