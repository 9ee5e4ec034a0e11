-- What a rule finds has its name and its label, and its captures and arguments as parts.
use Rattle.std.proofs.Common.{◌≡◌, ℕ, Bool, true, false, List, [], ◌∷◌, ◌++◌, map, fold, Option, Some, None, refl, ap, subst, if◌then◌else◌, inl, inr}
use Rattle.std.specs.List.{list_any}
use Rattle.std.specs.Prelude.{◌&&◌, ◌||◌, bytes_eq}
use Rattle.std.proofs.lemmas.Slice.Eq.{bytes_eq-Decides}
use Rattle.od_text.specs.Lists.{Each}
use Rattle.od_text.proofs.Lists.{Each-append, Each-left, Each-right, Each-weaker, Each-map, Each-flat_map, Each-filter}
use Rattle.od_matching.specs.Matching.Scan.{scan_of}
use Rattle.od_matching.specs.Matching.Hops.{most_found, pair_of, led_to, next_list, lists_from, hop_lists, last_of, hop_count}
use Rattle.od_matching.specs.Matching.Candidates.{candidates_at, part_at, each_alone, options_of, options_with}
use Rattle.od_matching.specs.Matching.Events.{products, mention_of, mentions_at, event_mentions, event_count}
use Rattle.od_matching.specs.Matching.Rules.{mentions, outcome_of, labelled, mention_at, body_outcome, rule_mentions}
use Rattle.od_extraction.specs.Mentions.{is_among, with_new, distinct, same_text_or_none}
use Rattle.od_document.specs.declared.sentence.Sentence.{Sentence}
use Rattle.od_extraction.specs.declared.mention.Labelled.{Labelled}
use Rattle.od_extraction.specs.declared.mention.Match.{Match}
use Rattle.od_extraction.specs.declared.mention.Mention.{Mention}
use Rattle.od_extraction.specs.declared.mention.Part.{Part}
use Rattle.od_extraction.specs.declared.mention.Span.{Span}
use Rattle.od_pattern.specs.declared.rule.Argument.{Argument}
use Rattle.od_pattern.specs.declared.rule.Body.{Body}
use Rattle.od_pattern.specs.declared.rule.Body.TheVariants.{Basic, Event as EventBody}
use Rattle.od_pattern.specs.declared.rule.EventRule.{EventRule}
use Rattle.od_pattern.specs.declared.rule.Hop.{Hop}
use Rattle.od_pattern.specs.declared.rule.HopPart.{HopPart}
use Rattle.od_pattern.specs.declared.rule.Many.{Many}
use Rattle.od_pattern.specs.declared.rule.Many.TheVariants.{One, Optional, All, AllOne}
use Rattle.od_pattern.specs.declared.rule.Rule.{Rule}
use Rattle.od_syntax.specs.Events.{captures}
use Rattle.od_named.specs.Named.{captures_behind, body_captures, body_arguments, IsCaptured, IsArgued, IsPartOf, IsNamedBy}
use Rattle.od_named.proofs.Captured.{scan-calls}

-- ## Among

pub same_bytes : (xs : List ℕ) → bytes_eq xs xs ≡ true
same_bytes xs = (bytes_eq-Decides xs xs).1 refl

same_label : (label : Option (List ℕ)) → same_text_or_none label label ≡ true
same_label None = refl
same_label (Some text) = same_bytes text

or_right : (a b : Bool) → b ≡ true → (a || b) ≡ true
or_right true b e = refl
or_right false b e = e

-- each element of a list passes a test that it passes itself, somewhere in the list
module _ {X : Type 0} (test : X → X → Bool) (itself : (x : X) → test x x ≡ true) where
  any-more : (y x : X) (xs : List X) → list_any (test x) xs ≡ true → list_any (test x) (y ∷ xs) ≡ true
  any-more y x xs h = or_right (test x y) (list_any (test x) xs) h

  any-self : (xs : List X) → Each (λ x. list_any (test x) xs ≡ true) xs
  any-self [] = tt
  any-self (x ∷ xs) = (ap (λ b. b || list_any (test x) xs) (itself x), Each-weaker (λ y. list_any (test y) xs ≡ true) (λ y. list_any (test y) (x ∷ xs) ≡ true) (λ y h. any-more x y xs h) xs (any-self xs))

-- the name is one of these
abbrev Called : List (List ℕ) → List ℕ → Type 0
Called names name = list_any (bytes_eq name) names ≡ true

called-self : (names : List (List ℕ)) → Each (Called names) names
called-self names = any-self bytes_eq same_bytes names

-- ## Hops

module _ (s : Sentence) (labels : List Labelled) (names : List (List ℕ)) where
  -- the captures of matches
  abbrev Called-all : List Match → Type 0
  Called-all list = Each (λ m. Each (IsCaptured names) m.captures) list

  scan-called : (p : _) → Each (Called names) (captures p) → Called-all (scan_of p s labels)
  scan-called p h = scan-calls (Called names) (IsCaptured names) (λ name i j n. record { name = n; label = refl }) p s labels h

  next-called : (part : HopPart) (list : List Match) → Each (Called names) (captures part.surface) → Called-all list → Called-all (next_list s part.path (scan_of part.surface s labels) list)
  next-called part list n h =
      let found = scan_of part.surface s labels in
      let C : Match → Type 0 = λ m. Each (IsCaptured names) m.captures in
      let led : (a : Match) → C a → Called-all (led_to s part.path found a) = λ a k.
      Each-map C (pair_of a) _
      (Each-weaker C (λ b. C (pair_of a b)) (λ b w. Each-append (IsCaptured names) a.captures b.captures k w) _ (Each-filter C _ found (scan-called part.surface n))) in
      Each-flat_map C (led_to s part.path found) list (Each-weaker C (λ a. Called-all (led_to s part.path found a)) led list h)

  lists-called : (list : List Match) (rest : List HopPart) → Each (Called names) (captures_behind rest) → Called-all list → Each Called-all (lists_from s labels list rest)
  lists-called list [] n h = (h, tt)
  lists-called list (part ∷ rest) n h = (
    h,
    lists-called (next_list s part.path (scan_of part.surface s labels) list) rest (Each-right (Called names) (captures part.surface) (captures_behind rest) n)
        (next-called part list (Each-left (Called names) (captures part.surface) (captures_behind rest) n) h),
  )

  last-called : (lists : List (List Match)) → Each Called-all lists → Called-all (last_of lists)
  last-called [] h = tt
  last-called (list ∷ []) h = h.0
  last-called (list ∷ next ∷ lists) h = last-called (next ∷ lists) h.1

-- ## Arguments

module _ (all : List Argument) where
  abbrev Parts-argued : List Part → Type 0
  Parts-argued parts = Each (IsArgued all) parts

  -- an argument that is one of them
  abbrev IsThere : Argument → Type 0
  IsThere a = list_any (λ b. bytes_eq a.name b.name && same_text_or_none a.label b.label) all ≡ true

  alone-argued : (a : Argument) (found : List Span) → IsThere a → Each Parts-argued (each_alone a found)
  alone-argued a [] h = tt
  alone-argued a (c ∷ found) h = ((h, tt), alone-argued a found h)

  together-argued : (a : Argument) (found : List Span) → IsThere a → Parts-argued (map (part_at a) found)
  together-argued a [] h = tt
  together-argued a (c ∷ found) h = (h, together-argued a found h)

  options-argued : (many : Many) (a : Argument) (found : List Span) → IsThere a → Each Parts-argued (options_of many a found)
  options-argued One a found h = alone-argued a found h
  options-argued Optional a [] h = (tt, tt)
  options-argued Optional a (c ∷ found) h = alone-argued a (c ∷ found) h
  options-argued All a found h = (together-argued a found h, tt)
  options-argued AllOne a [] h = tt
  options-argued AllOne a (c ∷ found) h = (together-argued a (c ∷ found) h, tt)

  all-options-argued : (arguments : List Argument) (candidates : List (List Span)) → Each IsThere arguments → Each (Each Parts-argued) (options_with arguments candidates)
  all-options-argued [] candidates h = tt
  all-options-argued (a ∷ arguments) [] h = tt
  all-options-argued (a ∷ arguments) (found ∷ candidates) h = (options-argued a.many a found h.0, all-options-argued arguments candidates h.1)

  products-argued : (options : List (List (List Part))) → Each (Each Parts-argued) options → Each Parts-argued (products options)
  products-argued [] h = (tt, tt)
  products-argued (options ∷ rest) h =
      let more = products-argued rest h.1 in
      let joined : (o : List Part) → Parts-argued o → Each Parts-argued (map (λ r. o ++ r) (products rest)) = λ o k.
      Each-map Parts-argued (λ r. o ++ r) (products rest) (Each-weaker Parts-argued (λ r. Parts-argued (o ++ r)) (λ r w. Each-append (IsArgued all) o r k w) (products rest) more) in
      Each-flat_map Parts-argued (λ o. map (λ r. o ++ r) (products rest)) options (Each-weaker Parts-argued (λ o. Each Parts-argued (map (λ r. o ++ r) (products rest))) joined options h.0)

there-self : (all : List Argument) → Each (IsThere all) all
there-self all = any-self (λ a b. bytes_eq a.name b.name && same_text_or_none a.label b.label) (λ a. rw (same_bytes a.name, same_label a.label) refl) all

-- ## Mentions

folded : (P : Mention → Type 0) (seen ms : List Mention) → Each P seen → Each P ms → Each P (fold with_new seen ms)
folded P seen [] h w = h
folded P seen (m ∷ ms) h w = folded P (with_new seen m) ms (one-more (is_among seen m)) w.1
  where
    one-more : (b : Bool) → Each P (if b then seen else seen ++ m ∷ [])
    one-more true = h
    one-more false = Each-append P seen (m ∷ []) h (w.0, tt)

module _ (r : Rule) (d k : ℕ) (s : Sentence) (labels : List Labelled) where
  -- mentions with the rule's name and label and parts of this body
  record IsOf (body : Body) (m : Mention) : Type 0 where
    rule : m.rule ≡ r.name
    label : m.label ≡ r.label
    parts : Each (IsPartOf body) m.parts

  made : (body : Body) (t : Match) (parts : List Part) → Each (IsCaptured (body_captures body)) t.captures → Each (IsArgued (body_arguments body)) parts → IsOf body (mention_of r d k t parts)
  made body t parts h w = record {
    rule = refl;
    label = refl;
    parts = Each-append (IsPartOf body) t.captures parts (Each-weaker (IsCaptured (body_captures body)) (IsPartOf body) (λ p x. inl x) t.captures h) (Each-weaker (IsArgued (body_arguments body)) (IsPartOf body) (λ p x. inr x) parts w);
  }

  hop-named : (h : Hop) → Each (IsOf (Basic h)) (distinct (map (mention_at r d k) (last_of (hop_lists h s labels))))
  hop-named h =
      let names = body_captures (Basic h) in
      let lists = hop_lists h s labels in
      let all = called-self names in
      let firsts = scan-called s labels names h.first (Each-left (Called names) (captures h.first) (captures_behind h.rest) all) in
      let last = last-called s labels names lists (lists-called s labels names (scan_of h.first s labels) h.rest (Each-right (Called names) (captures h.first) (captures_behind h.rest) all) firsts) in
      folded (IsOf (Basic h)) [] (map (mention_at r d k) (last_of lists)) tt
      (Each-map (IsOf (Basic h)) (mention_at r d k) (last_of lists) (Each-weaker (λ m. Each (IsCaptured names) m.captures) (λ m. IsOf (Basic h) (mention_at r d k m)) (λ m w. made (Basic h) m [] w tt) (last_of lists) last))

  event-named : (e : EventRule) → Each (IsOf (EventBody e)) (event_mentions r d k e s labels)
  event-named e =
      let names = captures e.trigger in
      let triggers = scan_of e.trigger s labels in
      let at : (t : Match) → Each (IsCaptured names) t.captures → Each (IsOf (EventBody e)) (mentions_at r d k s labels e.arguments t) = λ t h.
      let options = options_with e.arguments (candidates_at s labels e.arguments t) in
      Each-map (IsOf (EventBody e)) (mention_of r d k t) (products options)
      (Each-weaker (Parts-argued e.arguments) (λ parts. IsOf (EventBody e) (mention_of r d k t parts)) (λ parts w. made (EventBody e) t parts h w) (products options)
      (products-argued e.arguments options (all-options-argued e.arguments e.arguments (candidates_at s labels e.arguments t) (there-self e.arguments)))) in
      Each-flat_map (IsOf (EventBody e)) (mentions_at r d k s labels e.arguments) triggers
      (Each-weaker (λ t. Each (IsCaptured names) t.captures) (λ t. Each (IsOf (EventBody e)) (mentions_at r d k s labels e.arguments t)) at triggers (scan-called s labels names e.trigger (called-self names)))

  -- where there are not too many
  outcome-named : (P : Mention → Type 0) (count : Option ℕ) (found ms : List Mention) → outcome_of count found ≡ mentions ms → Each P found → Each P ms
  outcome-named P None found ms e h = let same : found ≡ ms = cc in subst (Each P) same h
  outcome-named P (Some count) found ms e h = absurd (cc)

  body-named : (body : Body) (ms : List Mention) → body_outcome r d k s labels body ≡ mentions ms → Each (IsOf body) ms
  body-named (Basic h) ms e = outcome-named (IsOf (Basic h)) (hop_count most_found (hop_lists h s labels)) (distinct (map (mention_at r d k) (last_of (hop_lists h s labels)))) ms e (hop-named h)
  body-named (EventBody v) ms e = outcome-named (IsOf (EventBody v)) (event_count most_found v s labels) (event_mentions r d k v s labels) ms e (event-named v)

  of-rule : (m : Mention) → IsOf r.body m → IsNamedBy r m
  of-rule m h = record { rule = h.rule; label = h.label; parts = h.parts }

-- what a rule finds is named by it
pub rule-named : (r : Rule) (d k : ℕ) (s : Sentence) (state ms : List Mention) → rule_mentions r d k s state ≡ mentions ms → Each (IsNamedBy r) ms
unfolding rule_mentions
rule-named r d k s state ms e = Each-weaker (IsOf r d k s (map labelled state) r.body) (IsNamedBy r) (of-rule r d k s (map labelled state)) ms (body-named r d k s (map labelled state) r.body ms e)
