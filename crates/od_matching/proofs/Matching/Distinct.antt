-- The mentions of a scan are without repeats, since each begins behind the one before.
use Rattle.std.proofs.Common.{◌≡◌, ℕ, ◌<◌, ◌≤◌, Bool, true, false, List, [], ◌∷◌, ◌++◌, refl, sym, ◌∙◌, ap, arith, append_assoc}
use Rattle.std.proofs.lemmas.Bool.{eqb-true}
use Rattle.std.proofs.lemmas.List.{append-nil}
use Rattle.std.specs.Prelude.{◌&&◌, ◌||◌, ◌==◌, if◌then◌else◌, map, fold}
use Rattle.od_matching.specs.Matching.Derives.{World}
use Rattle.od_matching.specs.Matching.Scan.{Scans, scan_of, world_in}
use Rattle.od_extraction.specs.Mentions.{same_mention, is_among, with_new, distinct}
use Rattle.od_matching.specs.Matching.Rules.{mention_at, labelled, mentions, rule_mentions}
use Rattle.od_matching.proofs.Matching.Rules.{of_one_part}
use Rattle.od_matching.proofs.Matching.Scans.{scans_of}
use Rattle.od_document.specs.declared.sentence.Sentence.{Sentence}
use Rattle.od_extraction.specs.declared.mention.Labelled.{Labelled}
use Rattle.od_extraction.specs.declared.mention.Mention.{Mention}
use Rattle.od_pattern.specs.declared.pattern.Surface.{Surface}
use Rattle.od_pattern.specs.declared.rule.Rule.{Rule}
use Rattle.od_pattern.specs.declared.rule.Body.TheVariants.{Basic}
use Rattle.od_extraction.specs.declared.mention.Match.{Match}

-- each mention begins before place i
abbrev pub BeginBefore : ℕ → List Mention → Type 0
BeginBefore i [] = Unit {0}
BeginBefore i (m ∷ ms) = (m.start < i) × BeginBefore i ms

-- and before every later place
BeginBefore-later : (i j : ℕ) (ms : List Mention) → i ≤ j → BeginBefore i ms → BeginBefore j ms
BeginBefore-later i j [] h b = tt
BeginBefore-later i j (m ∷ ms) h (b, bs) = (omega arith, BeginBefore-later i j ms h bs)

-- one more
BeginBefore-snoc : (i : ℕ) (ms : List Mention) (m : Mention) → BeginBefore i ms → m.start < i → BeginBefore i (ms ++ m ∷ [])
BeginBefore-snoc i [] m b h = (h, tt)
BeginBefore-snoc i (n ∷ ms) m (b, bs) h = (b, BeginBefore-snoc i ms m bs h)

-- a row of tests fails with its third
third_false : (a b c d : Bool) → c ≡ false → (a && (b && (c && d))) ≡ false
third_false true true c d e = ap (λ (z : Bool). z && d) e
third_false true false c d e = refl
third_false false b c d e = refl

-- different starts do not pass the test
starts_differ : (a b : ℕ) (same : Bool) → (a == b) ≡ same → b < a → same ≡ false
starts_differ a b true e h = absurd (let q : a ≡ b = eqb-true a b e in omega arith)
starts_differ a b false e h = refl

-- mentions with different starts are not the same
same_mention-start : (a b : Mention) → b.start < a.start → same_mention a b ≡ false
unfolding same_mention
same_mention-start a b h = third_false (a.document == b.document) (a.sentence == b.sentence) (a.start == b.start) _ (starts_differ a.start b.start _ refl h)

-- a mention that begins later than the others is not among them
is_among-later : (seen : List Mention) (m : Mention) → BeginBefore m.start seen → is_among seen m ≡ false
is_among-later [] m b = refl
is_among-later (n ∷ seen) m (b, bs) = ap (λ (z : Bool). z || is_among seen m) (same_mention-start m n b) ∙ is_among-later seen m bs

-- so it is added
with_new-later : (seen : List Mention) (m : Mention) → BeginBefore m.start seen → with_new seen m ≡ seen ++ m ∷ []
with_new-later seen m b = ap (λ (z : Bool). if z then seen else seen ++ m ∷ []) (is_among-later seen m b)

module _ (r : Rule) (d k : ℕ) where
  -- the mentions of further matches are all new
  later_new : (w : World) (p : Surface) (i : ℕ) (ms : List Match) (seen : List Mention) → Scans w p i ms → BeginBefore i seen
      → fold with_new seen (map (mention_at r d k) ms) ≡ seen ++ map (mention_at r d k) ms
  later_new w p i [] seen s b = sym (append-nil seen)
  later_new w p i (m ∷ ms) seen (next, rest) b =
      let new : Mention = mention_at r d k m in
      let before : BeginBefore m.span.start seen = BeginBefore-later i m.span.start seen next.from b in
      let after : BeginBefore m.span.end (seen ++ new ∷ []) =
      let takes : m.span.start < m.span.end = next.takes in
      BeginBefore-snoc m.span.end seen new (BeginBefore-later m.span.start m.span.end seen (omega arith) before) takes in
      ap (λ (z : List Mention). fold with_new z (map (mention_at r d k) ms)) (with_new-later seen new before)
      ∙ later_new w p m.span.end ms (seen ++ new ∷ []) rest after
      ∙ append_assoc seen (new ∷ []) (map (mention_at r d k) ms)

  -- the mentions of a scan are without repeats
  pub distinct-scan : (p : Surface) (s : Sentence) (labels : List Labelled) → distinct (map (mention_at r d k) (scan_of p s labels)) ≡ map (mention_at r d k) (scan_of p s labels)
  distinct-scan p s labels = later_new (world_in s labels) p 0 (scan_of p s labels) [] (scans_of p s labels) tt

  -- so a rule of one part finds a mention for each match
  pub one_part-scan : (p : Surface) (s : Sentence) (state : List Mention) → r.body ≡ Basic (record { first = p; rest = [] })
      → rule_mentions r d k s state ≡ mentions (map (mention_at r d k) (scan_of p s (map labelled state)))
  one_part-scan p s state e = of_one_part r p d k s state e ∙ ap mentions (distinct-scan p s (map labelled state))
