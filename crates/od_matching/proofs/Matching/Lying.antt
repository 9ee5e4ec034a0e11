-- What a rule finds in a sentence lies within it.
use Rattle.std.proofs.Common.{◌≡◌, ℕ, zero, suc, ◌+◌, ◌-◌, ◌<◌, ◌≤◌, Bool, true, false, List, [], ◌∷◌, ◌++◌, length, map, fold, Option, Some, None, refl, subst, arith, if◌then◌else◌}
use Rattle.std.specs.List.{range_with_len}
use Rattle.od_text.specs.Lists.{Each}
use Rattle.od_matching.specs.Matching.Reach.{Set, reached}
use Rattle.od_matching.specs.Matching.Scan.{scan_of}
use Rattle.od_matching.specs.Matching.Hops.{between, most_found, pair_of, led_to, next_list, lists_from, hop_lists, last_of, hop_count}
use Rattle.od_matching.specs.Matching.Candidates.{span, spans, candidates_in, candidates_of, candidates_at, part_at, each_alone, options_of, options_with}
use Rattle.od_matching.specs.Matching.Events.{products, mention_of, mentions_at, event_mentions, event_count}
use Rattle.od_extraction.specs.Mentions.{is_among, with_new, distinct}
use Rattle.od_matching.specs.Matching.Rules.{mentions, outcome_of, labelled, mention_at, body_outcome, rule_mentions}
use Rattle.od_extraction.specs.Spans.{PartLiesWithin, MatchLiesWithin, LiesWithin}
use Rattle.od_text.proofs.Lists.{Each-append, Each-weaker, Each-map, Each-flat_map, Each-filter}
use Rattle.od_matching.proofs.Matching.Apart.{apart-lie, scan-apart}
use Rattle.od_document.specs.declared.sentence.Sentence.{Sentence}
use Rattle.od_extraction.specs.declared.mention.Labelled.{Labelled}
use Rattle.od_extraction.specs.declared.mention.Mention.{Mention}
use Rattle.od_extraction.specs.declared.mention.Part.{Part}
use Rattle.od_extraction.specs.declared.mention.Span.{Span}
use Rattle.od_pattern.specs.declared.pattern.Surface.{Surface}
use Rattle.od_pattern.specs.declared.rule.Argument.{Argument}
use Rattle.od_pattern.specs.declared.rule.Body.{Body}
use Rattle.od_pattern.specs.declared.rule.Body.TheVariants.{Basic, Event as EventBody}
use Rattle.od_pattern.specs.declared.rule.EventRule.{EventRule}
use Rattle.od_pattern.specs.declared.rule.Hop.{Hop}
use Rattle.od_pattern.specs.declared.rule.HopPart.{HopPart}
use Rattle.od_pattern.specs.declared.rule.Many.{Many}
use Rattle.od_pattern.specs.declared.rule.Many.TheVariants.{One, Optional, All, AllOne}
use Rattle.od_pattern.specs.declared.rule.Rule.{Rule}
use Rattle.od_extraction.specs.declared.mention.Match.{Match}

-- ## Matches

module _ (s : Sentence) (labels : List Labelled) where
  scan-lies : (p : Surface) → Each (MatchLiesWithin (length s.tokens)) (scan_of p s labels)
  scan-lies p = apart-lie (length s.tokens) 0 (scan_of p s labels) (scan-apart p s labels)

  -- ## Hops

  abbrev Lie : List Match → Type 0
  Lie list = Each (MatchLiesWithin (length s.tokens)) list

  pair-lies : (a : Match) → MatchLiesWithin (length s.tokens) a → (b : Match) → MatchLiesWithin (length s.tokens) b → MatchLiesWithin (length s.tokens) (pair_of a b)
  pair-lies a h b k = record { takes = k.takes; ends = k.ends; captures = Each-append (PartLiesWithin (length s.tokens)) a.captures b.captures h.captures k.captures }

  next-lies : (part : HopPart) (list : List Match) → Lie list → Lie (next_list s part.path (scan_of part.surface s labels) list)
  next-lies part list h =
      let found = scan_of part.surface s labels in
      let led : (a : Match) → MatchLiesWithin (length s.tokens) a → Lie (led_to s part.path found a) = λ a k.
      Each-map (MatchLiesWithin (length s.tokens)) (pair_of a) _
      (Each-weaker (MatchLiesWithin (length s.tokens)) (λ b. MatchLiesWithin (length s.tokens) (pair_of a b)) (pair-lies a k) _ (Each-filter (MatchLiesWithin (length s.tokens)) _ found (scan-lies part.surface))) in
      Each-flat_map (MatchLiesWithin (length s.tokens)) (led_to s part.path found) list (Each-weaker (MatchLiesWithin (length s.tokens)) (λ a. Lie (led_to s part.path found a)) led list h)

  lists-lie : (list : List Match) (rest : List HopPart) → Lie list → Each Lie (lists_from s labels list rest)
  lists-lie list [] h = (h, tt)
  lists-lie list (part ∷ rest) h = (h, lists-lie (next_list s part.path (scan_of part.surface s labels) list) rest (next-lies part list h))

  last-lies : (lists : List (List Match)) → Each Lie lists → Lie (last_of lists)
  last-lies [] h = tt
  last-lies (list ∷ []) h = h.0
  last-lies (list ∷ next ∷ lists) h = last-lies (next ∷ lists) h.1

-- ## Arguments

-- a token or a span lies within so many tokens
abbrev SpanLies : ℕ → Span → Type 0
SpanLies n c = (c.start ≤ c.end) × (c.end ≤ n)

-- the numbers of a range
range-below : (a n b : ℕ) → a + n ≤ b → Each (λ k. (a ≤ k) × (k < b)) (range_with_len a n)
range-below a zero b h = tt
range-below a (suc n) b h =
    ((omega arith, omega arith), Each-weaker (λ k. (a + 1 ≤ k) × (k < b)) (λ k. (a ≤ k) × (k < b)) (λ k w. let x : a + 1 ≤ k = w.0 in (omega arith, w.1)) (range_with_len (a + 1) n) (range-below (a + 1) n b (omega arith)))

spans-lie : (n : ℕ) → Each (SpanLies n) (spans n)
spans-lie n =
    let from : (i : ℕ) → (0 ≤ i) × (i < n) → Each (SpanLies n) (map (λ k. span i (i + k + 1)) (range_with_len 0 (n - i))) = λ i h.
    let below : i < n = h.1 in
    Each-map (SpanLies n) (λ k. span i (i + k + 1)) (range_with_len 0 (n - i))
    (Each-weaker (λ k. (0 ≤ k) × (k < n - i)) (λ k. SpanLies n (span i (i + k + 1))) (λ k w. let x : k < n - i = w.1 in (omega arith, omega arith)) (range_with_len 0 (n - i)) (range-below 0 (n - i) (n - i) (omega arith))) in
    Each-flat_map (SpanLies n) (λ i. map (λ k. span i (i + k + 1)) (range_with_len 0 (n - i))) (range_with_len 0 n)
    (Each-weaker (λ i. (0 ≤ i) × (i < n)) (λ i. Each (SpanLies n) (map (λ k. span i (i + k + 1)) (range_with_len 0 (n - i)))) from (range_with_len 0 n) (range-below 0 n n (omega arith)))

module _ (s : Sentence) (labels : List Labelled) where
  candidates-lie : (label : Option (List ℕ)) (marked : Set) → Each (SpanLies (length s.tokens)) (candidates_in s labels label marked)
  candidates-lie None marked =
      Each-map (SpanLies (length s.tokens)) (λ k. span k (k + 1)) _
      (Each-weaker (λ k. (0 ≤ k) × (k < length s.tokens)) (λ k. SpanLies (length s.tokens) (span k (k + 1))) (λ k w. let x : k < length s.tokens = w.1 in (omega arith, omega arith)) _
      (Each-filter (λ k. (0 ≤ k) × (k < length s.tokens)) marked (range_with_len 0 (length s.tokens)) (range-below 0 (length s.tokens) (length s.tokens) (omega arith))))
  candidates-lie (Some label) marked = Each-filter (SpanLies (length s.tokens)) _ (spans (length s.tokens)) (spans-lie (length s.tokens))

  -- parts that lie within the sentence
  abbrev PartsLie : List Part → Type 0
  PartsLie parts = Each (PartLiesWithin (length s.tokens)) parts

  alone-lie : (a : Argument) (found : List Span) → Each (SpanLies (length s.tokens)) found → Each PartsLie (each_alone a found)
  alone-lie a [] h = tt
  alone-lie a (c ∷ found) h = ((h.0, tt), alone-lie a found h.1)

  together-lie : (a : Argument) (found : List Span) → Each (SpanLies (length s.tokens)) found → PartsLie (map (part_at a) found)
  together-lie a found h = Each-map (PartLiesWithin (length s.tokens)) (part_at a) found h

  options-lie : (many : Many) (a : Argument) (found : List Span) → Each (SpanLies (length s.tokens)) found → Each PartsLie (options_of many a found)
  options-lie One a found h = alone-lie a found h
  options-lie Optional a [] h = (tt, tt)
  options-lie Optional a (c ∷ found) h = alone-lie a (c ∷ found) h
  options-lie All a found h = (together-lie a found h, tt)
  options-lie AllOne a [] h = tt
  options-lie AllOne a (c ∷ found) h = (together-lie a (c ∷ found) h, tt)

  all-options-lie : (t : Match) (arguments : List Argument) → Each (Each PartsLie) (options_with arguments (candidates_at s labels arguments t))
  all-options-lie t [] = tt
  all-options-lie t (a ∷ arguments) = (options-lie a.many a (candidates_of s labels t a) (candidates-lie a.label (reached s a.path (between t.span.start t.span.end))), all-options-lie t arguments)

  products-lie : (options : List (List (List Part))) → Each (Each PartsLie) options → Each PartsLie (products options)
  products-lie [] h = (tt, tt)
  products-lie (options ∷ rest) h =
      let more = products-lie rest h.1 in
      let joined : (o : List Part) → PartsLie o → Each PartsLie (map (λ r. o ++ r) (products rest)) = λ o k.
      Each-map PartsLie (λ r. o ++ r) (products rest) (Each-weaker PartsLie (λ r. PartsLie (o ++ r)) (λ r w. Each-append (PartLiesWithin (length s.tokens)) o r k w) (products rest) more) in
      Each-flat_map PartsLie (λ o. map (λ r. o ++ r) (products rest)) options (Each-weaker PartsLie (λ o. Each PartsLie (map (λ r. o ++ r) (products rest))) joined options h.0)

-- ## Mentions

-- a mention of sentence k of document d lies within its tokens
pub record LiesAt (d k n : ℕ) (m : Mention) : Type 0 where
  pub document_is : m.document ≡ d
  pub sentence_is : m.sentence ≡ k
  pub lies : LiesWithin n m

module _ (r : Rule) (d k : ℕ) (s : Sentence) (labels : List Labelled) where
  -- a mention with the span of a match, its captures and further parts
  event-lies : (t : Match) → MatchLiesWithin (length s.tokens) t → (parts : List Part) → PartsLie s labels parts → LiesAt d k (length s.tokens) (mention_of r d k t parts)
  event-lies t h parts w = record {
    document_is = refl;
    sentence_is = refl;
    lies = record {
      takes = h.takes;
      ends = h.ends;
      parts = Each-append (PartLiesWithin (length s.tokens)) t.captures parts h.captures w;
    };
  }

  abbrev MentionsLie : List Mention → Type 0
  MentionsLie ms = Each (LiesAt d k (length s.tokens)) ms

  folded-lie : (seen ms : List Mention) → MentionsLie seen → MentionsLie ms → MentionsLie (fold with_new seen ms)
  folded-lie seen [] h w = h
  folded-lie seen (m ∷ ms) h w = folded-lie (with_new seen m) ms (one-more (is_among seen m)) w.1
    where
      one-more : (b : Bool) → MentionsLie (if b then seen else seen ++ m ∷ [])
      one-more true = h
      one-more false = Each-append (LiesAt d k (length s.tokens)) seen (m ∷ []) h (w.0, tt)

  hop-lies : (h : Hop) → MentionsLie (distinct (map (mention_at r d k) (last_of (hop_lists h s labels))))
  hop-lies h =
      let lists = hop_lists h s labels in
      let last = last-lies s labels lists (lists-lie s labels (scan_of h.first s labels) h.rest (scan-lies s labels h.first)) in
      folded-lie [] (map (mention_at r d k) (last_of lists)) tt
      (Each-map (LiesAt d k (length s.tokens)) (mention_at r d k) (last_of lists) (Each-weaker (MatchLiesWithin (length s.tokens)) (λ m. LiesAt d k (length s.tokens) (mention_at r d k m)) (λ m w. event-lies m w [] tt) (last_of lists) last))

  events-lie : (e : EventRule) → MentionsLie (event_mentions r d k e s labels)
  events-lie e =
      let triggers = scan_of e.trigger s labels in
      let at : (t : Match) → MatchLiesWithin (length s.tokens) t → MentionsLie (mentions_at r d k s labels e.arguments t) = λ t h.
      let options = options_with e.arguments (candidates_at s labels e.arguments t) in
      Each-map (LiesAt d k (length s.tokens)) (mention_of r d k t) (products options)
      (Each-weaker (PartsLie s labels) (λ parts. LiesAt d k (length s.tokens) (mention_of r d k t parts)) (event-lies t h) (products options)
      (products-lie s labels options (all-options-lie s labels t e.arguments))) in
      Each-flat_map (LiesAt d k (length s.tokens)) (mentions_at r d k s labels e.arguments) triggers
      (Each-weaker (MatchLiesWithin (length s.tokens)) (λ t. MentionsLie (mentions_at r d k s labels e.arguments t)) at triggers (scan-lies s labels e.trigger))

  -- where there are not too many
  outcome-lies : (count : Option ℕ) (found ms : List Mention) → outcome_of count found ≡ mentions ms → MentionsLie found → MentionsLie ms
  outcome-lies None found ms e h = let same : found ≡ ms = cc in subst MentionsLie same h
  outcome-lies (Some count) found ms e h = absurd (cc)

  body-lies : (body : Body) (ms : List Mention) → body_outcome r d k s labels body ≡ mentions ms → MentionsLie ms
  body-lies (Basic h) ms e = outcome-lies (hop_count most_found (hop_lists h s labels)) (distinct (map (mention_at r d k) (last_of (hop_lists h s labels)))) ms e (hop-lies h)
  body-lies (EventBody v) ms e = outcome-lies (event_count most_found v s labels) (event_mentions r d k v s labels) ms e (events-lie v)

-- what a rule finds lies in the sentence
pub rule-lies : (r : Rule) (d k : ℕ) (s : Sentence) (state ms : List Mention) → rule_mentions r d k s state ≡ mentions ms → Each (LiesAt d k (length s.tokens)) ms
unfolding rule_mentions
rule-lies r d k s state ms e = body-lies r d k s (map labelled state) r.body ms e
