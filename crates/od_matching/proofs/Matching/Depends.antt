-- What is found depends on a sentence only through what is asked of it, and on a state only through the labels that are named.
use Rattle.std.proofs.Common.{◌≡◌, ℕ, zero, suc, ◌+◌, Bool, true, false, List, [], ◌∷◌, length, map, refl, sym, ◌∙◌, ap, arith, inl, inr, get_or}
use Rattle.std.proofs.Math.Path.{fun_ext}
use Rattle.std.proofs.lemmas.Bool.{cases_lt, lt-ltb, le-ltb}
use Rattle.std.proofs.lemmas.List.FromFn.{get_or-map-range_with_len}
use Rattle.std.specs.Prelude.{◌&&◌, ◌||◌, ◌==◌, not, Option, Some, None, nat_lt, filter, if◌then◌else◌}
use Rattle.std.specs.List.{flat_map, list_any, range_with_len}
use Rattle.od_text.specs.Lists.{Each}
use Rattle.od_text.proofs.Lists.{Each-left, Each-right}
use Rattle.od_asked.specs.Asked.{Asked, at_tokens, at_edges, asked_surface, asked_surfaces, asked_label, asked_path, asked_paths, asked_part, asked_hop, asked_argument, asked_event, asked_body, asked_rule}
use Rattle.od_asked.specs.Holds.{holds}
use Rattle.od_asked.specs.Named.{named_surface, named_surfaces, named_label, named_hop, named_event, named_body, named_rule}
use Rattle.od_asked.specs.Tables.{truths, columns_of}
use Rattle.od_matching.specs.Matching.Candidates.{span, spans, candidates_in, candidates_of, candidates_at}
use Rattle.od_matching.specs.Matching.Dependence.{ends_of, AnswerAlike, LinkAlike, SameSpansOf, LabelAlike, StatesAlike}
use Rattle.od_matching.specs.Matching.Derives.{World, fits_token, holds_before, looks, first_turns, first, first_order, first_of}
use Rattle.od_matching.specs.Matching.Events.{mentions_with, mentions_at, event_mentions, counted_with, count_on, count_from, event_count}
use Rattle.od_matching.specs.Matching.First.{Trial, accept, first_one, first_test, first_jump, first_then, first_or, first_named}
use Rattle.od_matching.specs.Matching.Hops.{between, meets, pair_of, most_found, led_to, next_list, lists_from, hop_lists}
use Rattle.od_matching.specs.Matching.Reach.{Set, nodes, fits_any, repeated, reached, reached_on, reached_by}
use Rattle.od_matching.specs.Matching.Rules.{outcome_of, hop_outcome, labelled, body_outcome, rule_mentions}
use Rattle.od_matching.specs.Matching.Scan.{is_span_in, world_in, take_or_go, scan_from, scan_of}
use Rattle.od_document.specs.declared.sentence.Sentence.{Sentence}
use Rattle.od_document.specs.declared.token.Edge.{Edge}
use Rattle.od_extraction.specs.declared.mention.Labelled.{Labelled}
use Rattle.od_extraction.specs.declared.mention.Match.{Match}
use Rattle.od_extraction.specs.declared.mention.Mention.{Mention}
use Rattle.od_extraction.specs.declared.mention.Span.{Span}
use Rattle.od_pattern.specs.declared.path.Path.{Path, Row_of-Path, end_of-Path, more_of-Path}
use Rattle.od_pattern.specs.declared.path.Path.TheVariants.{Along, Against, Filter}
use Rattle.od_pattern.specs.declared.path.Path.TheVariants as path
use Rattle.od_pattern.specs.declared.pattern.Constraint.{Constraint}
use Rattle.od_pattern.specs.declared.pattern.Surface.{Surface, Row_of-Surface, end_of-Surface, more_of-Surface}
use Rattle.od_pattern.specs.declared.pattern.Surface.TheVariants.{Token, Label, Look, First, Last, Seq', Alt', Repeat', Capture'}
use Rattle.od_pattern.specs.declared.pattern.Value.{Value}
use Rattle.od_pattern.specs.declared.rule.Argument.{Argument}
use Rattle.od_pattern.specs.declared.rule.Body.{Body}
use Rattle.od_pattern.specs.declared.rule.Body.TheVariants.{Basic, Event}
use Rattle.od_pattern.specs.declared.rule.EventRule.{EventRule}
use Rattle.od_pattern.specs.declared.rule.Hop.{Hop}
use Rattle.od_pattern.specs.declared.rule.HopPart.{HopPart}
use Rattle.od_pattern.specs.declared.rule.Rule.{Rule}

-- ## What equal tables say

-- the first of two equal lists that have one, and the rest
same_head : {X : Type 0} {x y : X} {xs ys : List X} → x ∷ xs ≡ y ∷ ys → (x ≡ y) × (xs ≡ ys)
same_head e = (cc, cc)

-- the same truths, one thing asked after another
alike_each : (s s' : Sentence) (asked : List Asked) → columns_of s asked ≡ columns_of s' asked → Each (λ a. truths s a ≡ truths s' a) asked
alike_each s s' [] e = tt
alike_each s s' (a ∷ asked) e = let both = same_head e in (both.0, alike_each s s' asked both.1)

-- a constraint that has the same truths fits the same tokens
same_fit : (s s' : Sentence) (c : Constraint) (i : ℕ) → length s.tokens ≡ length s'.tokens → truths s (at_tokens c) ≡ truths s' (at_tokens c)
    → (nat_lt i (length s.tokens) && holds s c i) ≡ (nat_lt i (length s'.tokens) && holds s' c i)
same_fit s s' c i tokens e = elim (cases_lt i (length s.tokens)) [
  | inl lt ↦
      let here : get_or (truths s (at_tokens c)) i false ≡ holds s c i = get_or-map-range_with_len (holds s c) 0 (length s.tokens) i i false lt (omega arith) in
      let there : get_or (truths s' (at_tokens c)) i false ≡ holds s' c i = get_or-map-range_with_len (holds s' c) 0 (length s'.tokens) i i false (omega (arith, tokens)) (omega arith) in
      ap (λ b. b && holds s c i) (lt-ltb i (length s.tokens) lt)
      ∙ sym here ∙ ap (λ row. get_or row i false) e ∙ there
      ∙ sym (ap (λ b. b && holds s' c i) (lt-ltb i (length s'.tokens) (omega (arith, tokens))))
  | inr ge ↦
      ap (λ b. b && holds s c i) (le-ltb i (length s.tokens) ge)
      ∙ sym (ap (λ b. b && holds s' c i) (le-ltb i (length s'.tokens) (omega (arith, tokens))))
]

-- ## Surfaces

-- in two worlds a constraint fits the same tokens
abbrev Fits : World → World → Asked → Type 0
Fits u w (at_tokens c) = fits_token u c ≡ fits_token w c
Fits u w (at_edges value) = Unit {0}

-- in two worlds the same spans have the label
abbrev Spans : World → World → List ℕ → Type 0
Spans u w label = u.is_span label ≡ w.is_span label

module _ (u w : World) (long : u.length ≡ w.length) where
  same_look : (ahead positive : Bool) (c : Constraint) → fits_token u c ≡ fits_token w c → looks u c ahead positive ≡ looks w c ahead positive
  same_look true true c e = e
  same_look true false c e = ap (λ (f : ℕ → Bool). λ i. not (f i)) e
  same_look false true c e = ap (λ (f : ℕ → Bool). λ i. holds_before f i) e
  same_look false false c e = ap (λ (f : ℕ → Bool). λ i. not (holds_before f i)) e

  mutual
    unfolding first first_order first_of asked_surface asked_surfaces named_surface named_surfaces

    -- the preferred ways are the same
    same_first : (p : Surface) → Each (Fits u w) (asked_surface p) → Each (Spans u w) (named_surface p) → first u p ≡ first w p
    same_first (Token c) h k = ap first_one h.0
    same_first (Label name) h k = ap (λ n. first_jump n (u.is_span name)) long ∙ ap (first_jump w.length) k.0
    same_first (Look ahead positive c) h k = ap first_test (same_look ahead positive c h.0)
    same_first First h k = refl
    same_first Last h k = ap (λ n. first_test (λ i. i == n)) long
    same_first (Seq' v row) h k = same_order row h k
    same_first (Alt' v row) h k = same_of row h k
    same_first (Repeat' v (more_of-Surface p end_of-Surface) turns) h k =
        ap (λ n. first_turns n turns.lazy (first u p) turns.least turns.most) long
        ∙ ap (λ (f : Trial). first_turns w.length turns.lazy f turns.least turns.most) (same_first p h k)
    same_first (Capture' name v (more_of-Surface p end_of-Surface)) h k = ap (first_named name) (same_first p h k)

    same_order : {m : _} (row : Row_of-Surface m) → Each (Fits u w) (asked_surfaces row) → Each (Spans u w) (named_surfaces row) → first_order u row ≡ first_order w row
    same_order end_of-Surface h k = refl
    same_order (more_of-Surface p rest) h k =
        ap (λ (f : Trial). first_then f (first_order u rest)) (same_first p (Each-left (Fits u w) (asked_surface p) (asked_surfaces rest) h) (Each-left (Spans u w) (named_surface p) (named_surfaces rest) k))
        ∙ ap (first_then (first w p)) (same_order rest (Each-right (Fits u w) (asked_surface p) (asked_surfaces rest) h) (Each-right (Spans u w) (named_surface p) (named_surfaces rest) k))

    same_of : {m : _} (row : Row_of-Surface m) → Each (Fits u w) (asked_surfaces row) → Each (Spans u w) (named_surfaces row) → first_of u row ≡ first_of w row
    same_of end_of-Surface h k = refl
    same_of (more_of-Surface p rest) h k =
        ap (λ (f : Trial). first_or f (first_of u rest)) (same_first p (Each-left (Fits u w) (asked_surface p) (asked_surfaces rest) h) (Each-left (Spans u w) (named_surface p) (named_surfaces rest) k))
        ∙ ap (first_or (first w p)) (same_of rest (Each-right (Fits u w) (asked_surface p) (asked_surfaces rest) h) (Each-right (Spans u w) (named_surface p) (named_surfaces rest) k))

  module _ (p : Surface) (h : Each (Fits u w) (asked_surface p)) (k : Each (Spans u w) (named_surface p)) where
    -- the same matches, looking at no more than n places
    same_from : (n : ℕ) → scan_from u p n ≡ scan_from w p n
    unfolding scan_from
    same_from zero = fun_ext (λ i. refl)
    same_from (suc n) = fun_ext (λ i.
        ap (λ l. if nat_lt i l then take_or_go (scan_from u p n) i (first u p accept i) else []) long
        ∙ ap (λ (g : ℕ → List Match). if nat_lt i w.length then take_or_go g i (first u p accept i) else []) (same_from n)
        ∙ ap (λ (f : Trial). if nat_lt i w.length then take_or_go (scan_from w p n) i (f accept i) else []) (same_first p h k))

-- an edge whose label fits, from a marked token to token b, where edges and labels are alike; the ends are taken by g and h
same_any : (g h : ℕ × ℕ → ℕ) (value : Option Value) (marked : Set) (b : ℕ) (xs ys : List Edge) → map ends_of xs ≡ map ends_of ys
    → map (λ edge. fits_any value edge.label) xs ≡ map (λ edge. fits_any value edge.label) ys
    → list_any (λ edge. fits_any value edge.label && marked (g (ends_of edge)) && (h (ends_of edge) == b)) xs
    ≡ list_any (λ edge. fits_any value edge.label && marked (g (ends_of edge)) && (h (ends_of edge) == b)) ys
same_any g h value marked b [] [] e f = refl
same_any g h value marked b [] (y ∷ ys) e f = absurd (cc)
same_any g h value marked b (x ∷ xs) [] e f = absurd (cc)
same_any g h value marked b (x ∷ xs) (y ∷ ys) e f =
    let test : Bool → ℕ × ℕ → Bool = λ fit ends. fit && marked (g ends) && (h ends == b) in
    let rest : List Edge → Bool = λ edges. list_any (λ edge. test (fits_any value edge.label) (ends_of edge)) edges in
    ap (λ z. test (fits_any value x.label) z || rest xs) (same_head e).0
    ∙ ap (λ z. test z (ends_of y) || rest xs) (same_head f).0
    ∙ ap (λ z. test (fits_any value y.label) (ends_of y) || z) (same_any g h value marked b xs ys (same_head e).1 (same_head f).1)

-- any label fits at as many edges
any_label : (xs ys : List Edge) → map ends_of xs ≡ map ends_of ys → map (λ edge. fits_any None edge.label) xs ≡ map (λ edge. fits_any None edge.label) ys
any_label [] [] e = refl
any_label [] (y ∷ ys) e = absurd (cc)
any_label (x ∷ xs) [] e = absurd (cc)
any_label (x ∷ xs) (y ∷ ys) e = ap (λ z. true ∷ z) (any_label xs ys (same_head e).1)

module _ (s s' : Sentence) (tokens : length s.tokens ≡ length s'.tokens) where
  -- the same truths of one thing asked
  abbrev T : Asked → Type 0
  T a = truths s a ≡ truths s' a

  module _ (m m' : List Labelled) where
    -- the same spans of one label
    abbrev L : List ℕ → Type 0
    L label = SameSpansOf m m' label

    same_fits : (asked : List Asked) → Each T asked → Each (Fits (world_in s m) (world_in s' m')) asked
    same_fits [] h = tt
    same_fits (at_tokens c ∷ asked) h = (fun_ext (λ i. same_fit s s' c i tokens h.0), same_fits asked h.1)
    same_fits (at_edges value ∷ asked) h = (tt, same_fits asked h.1)

    same_spans : (named : List (List ℕ)) → Each L named → Each (Spans (world_in s m) (world_in s' m')) named
    same_spans [] k = tt
    same_spans (label ∷ named) k = (fun_ext (λ i. fun_ext (λ j. k.0 i j)), same_spans named k.1)

    scan_alike : (p : Surface) → Each T (asked_surface p) → Each L (named_surface p) → scan_of p s m ≡ scan_of p s' m'
    unfolding scan_of
    scan_alike p h k =
        ap (λ n. scan_from (world_in s m) p n 0) tokens
        ∙ ap (λ (g : ℕ → List Match). g 0) (same_from (world_in s m) (world_in s' m') tokens p (same_fits (asked_surface p) h) (same_spans (named_surface p) k) (length s'.tokens))

  module _ (links : map ends_of s.edges ≡ map ends_of s'.edges) where
    -- the same edges have a label that fits
    same_labels : (value : Option Value) → Each T (asked_label value) → map (λ edge. fits_any value edge.label) s.edges ≡ map (λ edge. fits_any value edge.label) s'.edges
    same_labels None h = any_label s.edges s'.edges links
    same_labels (Some value) h = h.0

    mutual
      unfolding reached reached_on reached_by asked_path asked_paths

      same_reached : (p : Path) → Each T (asked_path p) → reached s p ≡ reached s' p
      same_reached (Along value) h = fun_ext (λ marked. fun_ext (λ b. same_any (λ z. z.0) (λ z. z.1) value marked b s.edges s'.edges links (same_labels value h)))
      same_reached (Against value) h = fun_ext (λ marked. fun_ext (λ b. same_any (λ z. z.1) (λ z. z.0) value marked b s.edges s'.edges links (same_labels value h)))
      same_reached (Filter c) h = fun_ext (λ marked. fun_ext (λ b. ap (λ z. marked b && z) (same_fit s s' c b tokens h.0)))
      same_reached (path.Seq' v row) h = fun_ext (λ marked. fun_ext (λ b. ap (λ (f : Set → Set). f marked b) (same_on row h)))
      same_reached (path.Alt' v row) h = fun_ext (λ marked. fun_ext (λ b. ap (λ (f : Set → Set). f marked b) (same_by row h)))
      same_reached (path.Repeat' v (more_of-Path p end_of-Path) least most) h = fun_ext (λ marked. fun_ext (λ b.
          ap (λ n. repeated n (reached s p) least most marked b) tokens
          ∙ ap (λ (f : Set → Set). repeated (nodes s') f least most marked b) (same_reached p h)))

      same_on : {n : _} (row : Row_of-Path n) → Each T (asked_paths row) → reached_on s row ≡ reached_on s' row
      same_on end_of-Path h = fun_ext (λ marked. fun_ext (λ b. refl))
      same_on (more_of-Path p rest) h = fun_ext (λ marked. fun_ext (λ b.
          ap (λ (f : Set → Set). reached_on s rest (f marked) b) (same_reached p (Each-left T (asked_path p) (asked_paths rest) h))
          ∙ ap (λ (f : Set → Set). f (reached s' p marked) b) (same_on rest (Each-right T (asked_path p) (asked_paths rest) h))))

      same_by : {n : _} (row : Row_of-Path n) → Each T (asked_paths row) → reached_by s row ≡ reached_by s' row
      same_by end_of-Path h = fun_ext (λ marked. fun_ext (λ b. refl))
      same_by (more_of-Path p rest) h = fun_ext (λ marked. fun_ext (λ b.
          ap (λ (f : Set → Set). f marked b || reached_by s rest marked b) (same_reached p (Each-left T (asked_path p) (asked_paths rest) h))
          ∙ ap (λ (f : Set → Set). reached s' p marked b || f marked b) (same_by rest (Each-right T (asked_path p) (asked_paths rest) h))))

    module _ (m m' : List Labelled) where
      -- ## Hops

      same_led : (p : Path) (matches : List Match) → Each T (asked_path p) → led_to s p matches ≡ led_to s' p matches
      same_led p matches h = fun_ext (λ a. ap (λ (f : Set → Set). map (pair_of a) (filter (λ b. meets (f (between a.span.start a.span.end)) b.span.start b.span.end) matches)) (same_reached p h))

      same_lists : (list : List Match) (rest : List HopPart) → Each T (flat_map asked_part rest) → Each (L m m') (flat_map (λ part. named_surface part.surface) rest)
          → lists_from s m list rest ≡ lists_from s' m' list rest
      same_lists list [] h k = refl
      same_lists list (part ∷ rest) h k =
          let here = Each-left T (asked_part part) (flat_map asked_part rest) h in
          let led = Each-left T (asked_path part.path) (asked_surface part.surface) here in
          let scanned = Each-right T (asked_path part.path) (asked_surface part.surface) here in
          let names = flat_map (λ part. named_surface part.surface) rest in
          let found : scan_of part.surface s m ≡ scan_of part.surface s' m' = scan_alike m m' part.surface scanned (Each-left (L m m') (named_surface part.surface) names k) in
          let matches = scan_of part.surface s' m' in
          let next : next_list s part.path (scan_of part.surface s m) list ≡ next_list s' part.path matches list =
          ap (λ ms. next_list s part.path ms list) found ∙ ap (λ (f : Match → List Match). flat_map f list) (same_led part.path matches led) in
          ap (λ z. list ∷ z)
          (ap (λ l. lists_from s m l rest) next
          ∙ same_lists (next_list s' part.path matches list) rest (Each-right T (asked_part part) (flat_map asked_part rest) h) (Each-right (L m m') (named_surface part.surface) names k))

      same_hop : (h : Hop) → Each T (asked_hop h) → Each (L m m') (named_hop h) → hop_lists h s m ≡ hop_lists h s' m'
      same_hop h t k =
          let names = flat_map (λ part. named_surface part.surface) h.rest in
          let asked = flat_map asked_part h.rest in
          ap (λ l. lists_from s m l h.rest) (scan_alike m m' h.first (Each-left T (asked_surface h.first) asked t) (Each-left (L m m') (named_surface h.first) names k))
          ∙ same_lists (scan_of h.first s' m') h.rest (Each-right T (asked_surface h.first) asked t) (Each-right (L m m') (named_surface h.first) names k)

      -- ## Events

      same_in : (label : Option (List ℕ)) (marked : Set) → Each (L m m') (named_label label) → candidates_in s m label marked ≡ candidates_in s' m' label marked
      same_in None marked k = ap (λ n. map (λ i. span i (i + 1)) (filter marked (range_with_len 0 n))) tokens
      same_in (Some label) marked k =
          ap (λ n. filter (λ c. is_span_in m label c.start c.end && meets marked c.start c.end) (spans n)) tokens
          ∙ ap (λ (f : Span → Bool). filter f (spans (length s'.tokens))) (fun_ext (λ c. ap (λ b. b && meets marked c.start c.end) (k.0 c.start c.end)))

      same_candidates_at : (t : Match) (arguments : List Argument) → Each T (flat_map asked_argument arguments) → Each (L m m') (flat_map (λ a. named_label a.label) arguments)
          → candidates_at s m arguments t ≡ candidates_at s' m' arguments t
      same_candidates_at t [] h k = refl
      same_candidates_at t (a ∷ arguments) h k =
          let asked = flat_map asked_argument arguments in
          let names = flat_map (λ a. named_label a.label) arguments in
          let from : Set = between t.span.start t.span.end in
          let one : candidates_of s m t a ≡ candidates_of s' m' t a =
          ap (λ (f : Set → Set). candidates_in s m a.label (f from)) (same_reached a.path (Each-left T (asked_path a.path) asked h))
          ∙ same_in a.label (reached s' a.path from) (Each-left (L m m') (named_label a.label) names k) in
          ap (λ z. z ∷ candidates_at s m arguments t) one
          ∙ ap (λ z. candidates_of s' m' t a ∷ z) (same_candidates_at t arguments (Each-right T (asked_path a.path) asked h) (Each-right (L m m') (named_label a.label) names k))

      module _ (r : Rule) (d k : ℕ) (e : EventRule) (h : Each T (asked_event e)) (n : Each (L m m') (named_event e)) where
        abbrev asked_later : List Asked
        asked_later = flat_map asked_argument e.arguments

        abbrev named_later : List (List ℕ)
        named_later = flat_map (λ a. named_label a.label) e.arguments

        same_trigger : scan_of e.trigger s m ≡ scan_of e.trigger s' m'
        same_trigger = scan_alike m m' e.trigger (Each-left T (asked_surface e.trigger) asked_later h) (Each-left (L m m') (named_surface e.trigger) named_later n)

        same_arguments : (t : Match) → candidates_at s m e.arguments t ≡ candidates_at s' m' e.arguments t
        same_arguments t = same_candidates_at t e.arguments (Each-right T (asked_surface e.trigger) asked_later h) (Each-right (L m m') (named_surface e.trigger) named_later n)

        same_mentions : event_mentions r d k e s m ≡ event_mentions r d k e s' m'
        same_mentions =
            ap (flat_map (mentions_at r d k s m e.arguments)) same_trigger
            ∙ ap (λ (f : Match → List Mention). flat_map f (scan_of e.trigger s' m')) (fun_ext (λ t. ap (mentions_with r d k e.arguments t) (same_arguments t)))

        same_count : (most before : ℕ) (ts : List Match) → count_from most s m e.arguments before ts ≡ count_from most s' m' e.arguments before ts
        same_count most before [] = refl
        same_count most before (t ∷ ts) =
            ap (λ (f : ℕ → Option ℕ). count_on f before (counted_with most before e.arguments (candidates_at s m e.arguments t))) (fun_ext (λ z. same_count most z ts))
            ∙ ap (λ cs. count_on (λ z. count_from most s' m' e.arguments z ts) before (counted_with most before e.arguments cs)) (same_arguments t)

        same_event : outcome_of (event_count most_found e s m) (event_mentions r d k e s m) ≡ outcome_of (event_count most_found e s' m') (event_mentions r d k e s' m')
        same_event =
            ap (λ ts. outcome_of (count_from most_found s m e.arguments 0 ts) (event_mentions r d k e s m)) same_trigger
            ∙ ap (λ z. outcome_of z (event_mentions r d k e s m)) (same_count most_found 0 (scan_of e.trigger s' m'))
            ∙ ap (outcome_of (event_count most_found e s' m')) same_mentions

      same_body : (r : Rule) (d k : ℕ) (body : Body) → Each T (asked_body body) → Each (L m m') (named_body body) → body_outcome r d k s m body ≡ body_outcome r d k s' m' body
      same_body r d k (Basic h) t n = ap (hop_outcome r d k) (same_hop h t n)
      same_body r d k (Event e) t n = same_event r d k e t n

-- ## The laws

pub same_scan : (p : Surface) (s s' : Sentence) (m m' : List Labelled)
    → AnswerAlike (asked_surface p) s s' → LabelAlike (named_surface p) m m' → scan_of p s m ≡ scan_of p s' m'
same_scan p s s' m m' answers named = scan_alike s s' answers.tokens m m' p (alike_each s s' (asked_surface p) answers.truths) named

pub same_reach : (p : Path) (s s' : Sentence) (marked : Set) (b : ℕ)
    → AnswerAlike (asked_path p) s s' → LinkAlike s s' → reached s p marked b ≡ reached s' p marked b
same_reach p s s' marked b answers links =
    ap (λ (f : Set → Set). f marked b) (same_reached s s' answers.tokens links p (alike_each s s' (asked_path p) answers.truths))

pub same_outcome : (r : Rule) (d k : ℕ) (s s' : Sentence) (state state' : List Mention)
    → AnswerAlike (asked_rule r) s s' → LinkAlike s s' → StatesAlike (named_rule r) state state'
    → rule_mentions r d k s state ≡ rule_mentions r d k s' state'
unfolding rule_mentions
same_outcome r d k s s' state state' answers links named =
    same_body s s' answers.tokens links (map labelled state) (map labelled state') r d k r.body (alike_each s s' (asked_rule r) answers.truths) named

pub same_state : (r : Rule) (d k : ℕ) (s : Sentence) (state state' : List Mention)
    → StatesAlike (named_rule r) state state' → rule_mentions r d k s state ≡ rule_mentions r d k s state'
same_state r d k s state state' named = same_outcome r d k s s state state' (record { tokens = refl; truths = refl }) refl named
