-- The list that is computed, step by step.
use Rattle.std.proofs.Common.{◌≡◌, ℕ, suc, ◌+◌, ◌-◌, ◌<◌, ◌≤◌, Bool, true, List, [], ◌∷◌, refl, sym, ◌∙◌, ap, arith}
use Rattle.std.proofs.lemmas.Bool.{lt-ltb}
use Rattle.std.specs.Prelude.{Some, None, nat_lt, if◌then◌else◌}
use Rattle.od_matching.specs.Matching.First.{Ending, accept}
use Rattle.od_matching.specs.Matching.Derives.{World, first}
use Rattle.od_matching.specs.Matching.Scan.{Scans, match_of, take_or_go, scan_from, scan_at, scan_of, world_in}
use Rattle.od_matching.proofs.Matching.Scans.{scans_from, scans_of, same_scans}
use Rattle.od_document.specs.declared.sentence.Sentence.{Sentence}
use Rattle.od_extraction.specs.declared.mention.Labelled.{Labelled}
use Rattle.od_pattern.specs.declared.pattern.Surface.{Surface}
use Rattle.od_extraction.specs.declared.mention.Match.{Match}

module _ (w : World) (p : Surface) where
  -- the list from place i on is the list of matches from there on
  pub scans_at : (i : ℕ) → Scans w p i (scan_at w p i)
  scans_at i = scans_from w p (w.length - i) i (omega arith)

  -- as many places as the sentence has left are enough
  pub scan_enough : (n i : ℕ) → w.length ≤ i + n → scan_from w p n i ≡ scan_at w p i
  scan_enough n i h = same_scans w p i _ _ (scans_from w p n i h) (scans_at i)

  -- behind the last token there is nothing
  pub scan_at-end : (i : ℕ) → w.length ≤ i → scan_at w p i ≡ []
  unfolding scan_from
  scan_at-end i h = sym (scan_enough 0 i (omega arith))

  -- one step of the search
  stepped : (i n : ℕ) (b : Bool) → nat_lt i w.length ≡ b → b ≡ true → scan_from w p (suc n) i ≡ take_or_go (scan_from w p n) i (first w p accept i)
  unfolding scan_from
  stepped i n b e h = ap (λ (z : Bool). if z then take_or_go (scan_from w p n) i (first w p accept i) else []) (e ∙ h)

  -- where no way takes a token the search goes on at the next place
  pub scan_at-none : (i : ℕ) → i < w.length → first w p accept i ≡ None → scan_at w p i ≡ scan_at w p (i + 1)
  scan_at-none i h e =
      sym (scan_enough (suc (w.length - (i + 1))) i (omega arith))
      ∙ stepped i (w.length - (i + 1)) _ refl (lt-ltb i w.length h)
      ∙ ap (take_or_go (scan_from w p (w.length - (i + 1))) i) e

  -- a way that takes a token is a match, behind which the search goes on
  pub scan_at-some : (i : ℕ) (o : Ending) → i < w.length → first w p accept i ≡ Some o → i < o.end
      → scan_at w p i ≡ match_of i o.end o.captures ∷ scan_at w p o.end
  scan_at-some i o h e lt =
      sym (scan_enough (suc (w.length - i)) i (omega arith))
      ∙ stepped i (w.length - i) _ refl (lt-ltb i w.length h)
      ∙ ap (take_or_go (scan_from w p (w.length - i)) i) e
      ∙ ap (λ (z : Bool). if z then match_of i o.end o.captures ∷ scan_from w p (w.length - i) o.end else scan_from w p (w.length - i) (i + 1)) (lt-ltb i o.end lt)
      ∙ ap (λ (z : List Match). match_of i o.end o.captures ∷ z) (scan_enough (w.length - i) o.end (omega arith))

-- the whole list is the list from the first place on
pub scan_of-start : (p : Surface) (s : Sentence) (labels : List Labelled) → scan_of p s labels ≡ scan_at (world_in s labels) p 0
scan_of-start p s labels = same_scans (world_in s labels) p 0 _ _ (scans_of p s labels) (scans_at (world_in s labels) p 0)
