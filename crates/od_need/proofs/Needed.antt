-- Where a rule finds anything on a sentence, its need occurs there.
use Rattle.std.proofs.Common.{◌≡◌, ℕ, zero, suc, ◌<◌, ◌≤◌, Bool, true, false, cond, List, [], ◌∷◌, ◌++◌, length, map, refl, sym, ◌∙◌, ap, ap₂, subst, arith, inl, inr}
use Rattle.std.proofs.lemmas.Bool.{cases_Bool, and_parts, and_from, or_cases, or_left, or_right, ltb-true}
use Rattle.std.specs.Prelude.{◌&&◌, ◌==◌, bytes_eq, filter, Option, Some, None, slice_get}
use Rattle.std.specs.List.{flat_map, list_any, range_with_len}
use mathlib.Core.Former.{Count}
use Rattle.od_text.specs.Lists.{Each}
use Rattle.od_asked.specs.Holds.{holds, has_text}
use Rattle.od_asked.specs.Texts.{fits}
use Rattle.od_document.specs.declared.sentence.Sentence.{Sentence}
use Rattle.od_document.specs.declared.token.Edge.{Edge}
use Rattle.od_extraction.specs.Mentions.{distinct}
use Rattle.od_extraction.specs.declared.mention.Labelled.{Labelled}
use Rattle.od_extraction.specs.declared.mention.Match.{Match}
use Rattle.od_extraction.specs.declared.mention.Part.{Part}
use Rattle.od_extraction.specs.declared.mention.Span.{Span}
use Rattle.od_matching.proofs.Matching.Counting.{hop_count-none, event_count-none}
use Rattle.od_matching.proofs.Matching.Reaches.{sound}
use Rattle.od_matching.proofs.Matching.Scans.{scans_of}
use Rattle.od_matching.proofs.Matching.Tests.{any_at, some_below, any_there}
use Rattle.od_matching.proofs.Rounds.Kept.{kept-is-round}
use Rattle.od_matching.specs.Matching.Candidates.{spans, is_chosen, candidates_in, candidates_of, candidates_at, each_alone, options_of, options_with}
use Rattle.od_matching.specs.Matching.Choice.{Relation}
use Rattle.od_matching.specs.Matching.Derives.{fits_token, looks, turns_from, derives, in_order, one_of}
use Rattle.od_matching.specs.Matching.Events.{products, mentions_at, event_mentions}
use Rattle.od_matching.specs.Matching.Hops.{meets, meets_match, tokens_of, pair_of, led_to, next_list, lists_from, hop_lists, last_of, most_found}
use Rattle.od_matching.specs.Matching.Reach.{Set, Link, fits_any, Turned, Repeated, leads, leads_on, leads_by, reached}
use Rattle.od_matching.specs.Matching.Rules.{labelled, mentions, mention_at, outcome_of, body_outcome, rule_mentions}
use Rattle.od_matching.specs.Matching.Scan.{Scans, is_span_in, world_in, scan_of}
use Rattle.od_need.specs.Candidates.{needed}
use Rattle.od_need.specs.Laws.{FoundIsNeeded, CandidatesKeepAll, PrunedIsRound}
use Rattle.od_need.specs.Needs.{need_value, need_constraint, need_turns, need_surface, need_surfaces, need_label, need_path, need_paths, need_part, need_parts, need_hop, need_candidate, need_many, need_argument, need_event, need_body}
use Rattle.od_need.specs.Occurs.{some_token, some_edge, some_label, occurs, all_occur, some_occurs}
use Rattle.od_need.specs.declared.need.Need as need
use Rattle.od_need.specs.declared.need.Need.{Need, Row_of-Need, end_of-Need, more_of-Need, items-the_row-Need, items_hidden-the_row-Need-0}
use Rattle.od_pattern.specs.declared.pattern.Constraint.{Constraint, Any, Is, Not', And', Or', end_of-Constraint, more_of-Constraint}
use Rattle.od_pattern.specs.declared.pattern.Surface.{Surface, Row_of-Surface, end_of-Surface, more_of-Surface}
use Rattle.od_pattern.specs.declared.pattern.Surface.TheVariants.{Token, Label, Look, First, Last, Capture'}
use Rattle.od_pattern.specs.declared.pattern.Surface.TheVariants as surface
use Rattle.od_pattern.specs.declared.pattern.Value.{Value}
use Rattle.od_pattern.specs.declared.pattern.Value.TheVariants as value
use Rattle.od_pattern.specs.declared.path.Path.{Path, Row_of-Path, end_of-Path, more_of-Path}
use Rattle.od_pattern.specs.declared.path.Path.TheVariants.{Along, Against, Filter}
use Rattle.od_pattern.specs.declared.path.Path.TheVariants as path
use Rattle.od_pattern.specs.declared.rule.Argument.{Argument}
use Rattle.od_pattern.specs.declared.rule.Body.{Body}
use Rattle.od_pattern.specs.declared.rule.Body.TheVariants.{Basic, Event}
use Rattle.od_pattern.specs.declared.rule.EventRule.{EventRule}
use Rattle.od_pattern.specs.declared.rule.Hop.{Hop}
use Rattle.od_pattern.specs.declared.rule.HopPart.{HopPart}
use Rattle.od_pattern.specs.declared.rule.Many.{Many}
use Rattle.od_pattern.specs.declared.rule.Many.TheVariants.{One, Optional, All, AllOne}
use Rattle.od_pattern.specs.declared.rule.Rule.{Rule}

-- ## Lists that are not empty

abbrev NotEmpty : {X : Type 0} → List X → Type 0
NotEmpty xs = xs ≡ [] → ⊥

-- something is given by an element
given_by : {X Y : Type 0} (f : X → List Y) (xs : List X) → NotEmpty (flat_map f xs) → (x : X) × NotEmpty (f x)
given_by f [] h = absurd (h refl)
given_by {X = X} {Y = Y} f (x ∷ xs) h = step (f x) refl (given_by f xs)
  where
    step : (ys : List Y) → f x ≡ ys → (NotEmpty (flat_map f xs) → (x' : X) × NotEmpty (f x')) → (x' : X) × NotEmpty (f x')
    step [] e later = later (λ none. h (ap₂ (λ a b. a ++ b) e none))
    step (y ∷ ys) e later = (x, λ none. let q : y ∷ ys ≡ [] = sym e ∙ none in absurd (cc))

-- a kept element passes
passes : {X : Type 0} (test : X → Bool) (xs : List X) → NotEmpty (filter test xs) → (x : X) × (test x ≡ true)
passes test [] h = absurd (h refl)
passes test (x ∷ xs) h = elim (cases_Bool (test x)) [
  | inl yes' ↦ (x, yes')
  | inr no' ↦ passes test xs (λ none. h (ap (λ b. cond b (x ∷ filter test xs) (filter test xs)) no' ∙ none))
]

-- a weaker test passes too
weaker : {X : Type 0} (p q : X → Bool) → ((x : X) → p x ≡ true → q x ≡ true) → (xs : List X) → list_any p xs ≡ true → list_any q xs ≡ true
weaker p q h [] e = absurd (let b : false ≡ true = e in cc)
weaker p q h (x ∷ xs) e = elim (or_cases (p x) (list_any p xs) e) [
  | inl here ↦ or_left (q x) (list_any q xs) (h x here)
  | inr there ↦ or_right (q x) (list_any q xs) (weaker p q h xs there)
]

-- the row of some needs
abbrev row_of : Need → (n : Count) × Row_of-Need n
row_of (need.And' _ row) = (_, row)
row_of _ = (_, end_of-Need)

module _ (s : Sentence) (m : List Labelled) where
  -- the need occurs
  abbrev Occurs : Need → Type 0
  Occurs n = occurs s m n ≡ true

  -- ## Needs of several

  all-row : (n : _) (row : Row_of-Need n) → Each Occurs (items-the_row-Need n row) → all_occur s m row ≡ true
  unfolding all_occur
  all-row n end_of-Need h = refl
  all-row n (more_of-Need x rest) h = and_from _ _ h.0 (all-row _ rest h.1)

  pub occur-all : (ns : List Need) → Each Occurs ns → Occurs (need.And ns)
  unfolding occurs
  occur-all ns h = let row = row_of (need.And ns) in all-row row.0 row.1 (subst (Each Occurs) (sym (items_hidden-the_row-Need-0 ns)) h)

  some-row : (n : _) (row : Row_of-Need n) → list_any (occurs s m) (items-the_row-Need n row) ≡ true → some_occurs s m row ≡ true
  unfolding some_occurs
  some-row n end_of-Need h = h
  some-row n (more_of-Need x rest) h = elim (or_cases (occurs s m x) _ h) [
    | inl here ↦ or_left _ _ here
    | inr there ↦ or_right _ _ (some-row _ rest there)
  ]

  pub occur-some : (ns : List Need) → list_any (occurs s m) ns ≡ true → Occurs (need.Or ns)
  unfolding occurs
  occur-some ns h = let row = row_of (need.And ns) in some-row row.0 row.1 (subst (λ xs. list_any (occurs s m) xs ≡ true) (sym (items_hidden-the_row-Need-0 ns)) h)

  occur-true : Occurs need.True
  unfolding occurs
  occur-true = refl

  occur-label : (name : List ℕ) → some_label m name ≡ true → Occurs (need.Label name)
  unfolding occurs
  occur-label name h = h

  occur-edge : (v : Value) → some_edge s v ≡ true → Occurs (need.Edge v)
  unfolding occurs
  occur-edge v h = h

  -- ## Constraints

  value-needed : (field : _) (v : Value) → some_token s field v ≡ true → Occurs (need_value field v)
  unfolding occurs
  value-needed field (value.Plain text) h = h
  value-needed field (value.Regex text) h = h

  constraint-needed : (c : Constraint) (k : ℕ) → k < length s.tokens → holds s c k ≡ true → Occurs (need_constraint c)
  unfolding holds need_constraint
  constraint-needed Any k lt e = occur-true
  constraint-needed (Is field v) k lt e = value-needed field v (any_at (length s.tokens) (has_text s field v) k lt e)
  constraint-needed (Not' w (more_of-Constraint c end_of-Constraint)) k lt e = occur-true
  constraint-needed (And' w (more_of-Constraint c end_of-Constraint) u (more_of-Constraint d end_of-Constraint)) k lt e =
      let both = and_parts (holds s c k) (holds s d k) e in
      occur-all _ (constraint-needed c k lt both.0, (constraint-needed d k lt both.1, tt))
  constraint-needed (Or' w (more_of-Constraint c end_of-Constraint) u (more_of-Constraint d end_of-Constraint)) k lt e =
      occur-some _ (elim (or_cases (holds s c k) (holds s d k) e) [
        | inl here ↦ or_left _ _ (constraint-needed c k lt here)
        | inr there ↦ or_right _ _ (or_left _ _ (constraint-needed d k lt there))
      ])

  fit-needed : (c : Constraint) (k : ℕ) → fits_token (world_in s m) c k ≡ true → Occurs (need_constraint c)
  fit-needed c k e = let both = and_parts _ _ e in constraint-needed c k (ltb-true k (length s.tokens) both.0) both.1

  -- ## Surfaces

  look-needed : (ahead : Bool) (c : Constraint) (i : ℕ) → looks (world_in s m) c ahead true i ≡ true → Occurs (need_constraint c)
  look-needed true c i e = fit-needed c i e
  look-needed false c zero e = absurd (let b : false ≡ true = e in cc)
  look-needed false c (suc i) e = fit-needed c i e

  span-needed : (name : List ℕ) (i j : ℕ) → is_span_in m name i j ≡ true → Occurs (need.Label name)
  span-needed name i j e =
      occur-label name
      (weaker (λ (l : Labelled). bytes_eq l.label name && (l.span.start == i) && (l.span.end == j)) (λ (l : Labelled). bytes_eq l.label name)
      (λ l h. (and_parts _ _ (and_parts _ _ h).0).0) m e)

  turns-needed : (lazy : Bool) (A : Relation) (least : ℕ) (most : Option ℕ) (n : Need) → ((i j : ℕ) (c : List Part) (t : List ℕ) → A i j c t → Occurs n)
      → (i j : ℕ) (c : List Part) (t : List ℕ) → turns_from lazy A least most i j c t → Occurs (need_turns least n)
  turns-needed lazy A zero most n h i j c t d = occur-true
  turns-needed lazy A (suc least) None n h i j c t d = h i d.mid d.c1 d.t1 d.left
  turns-needed lazy A (suc least) (Some most) n h i j c t d = let e = d.1 in h i e.mid e.c1 e.t1 e.left

  mutual
    unfolding derives in_order one_of need_surface need_surfaces

    -- a pattern that goes from a place to a place has its need
    pub surface-needed : (p : Surface) (i j : ℕ) (c : List Part) (t : List ℕ) → derives (world_in s m) p i j c t → Occurs (need_surface p)
    surface-needed (Token x) i j c t d = fit-needed x i d.passes
    surface-needed (Label name) i j c t d = span-needed name i j d.passes
    surface-needed (Look ahead true x) i j c t d = look-needed ahead x i d.passes
    surface-needed (Look ahead false x) i j c t d = occur-true
    surface-needed First i j c t d = occur-true
    surface-needed Last i j c t d = occur-true
    surface-needed (surface.Seq' v row) i j c t d = occur-all _ (order-needed row i j c t d)
    surface-needed (surface.Alt' v row) i j c t d = occur-some _ (one-needed 0 row i j c t d)
    surface-needed (surface.Repeat' v (more_of-Surface p end_of-Surface) turns) i j c t d =
        turns-needed turns.lazy (derives (world_in s m) p) turns.least turns.most (need_surface p) (surface-needed p) i j c t d
    surface-needed (Capture' name v (more_of-Surface p end_of-Surface)) i j c t d = surface-needed p i j d.inner t d.goes

    order-needed : {l : _} (row : Row_of-Surface l) (i j : ℕ) (c : List Part) (t : List ℕ) → in_order (world_in s m) row i j c t → Each Occurs (need_surfaces row)
    order-needed end_of-Surface i j c t d = tt
    order-needed (more_of-Surface p rest) i j c t d = (surface-needed p i d.mid d.c1 d.t1 d.left, order-needed rest d.mid j d.c2 d.t2 d.right)

    one-needed : (k : ℕ) {l : _} (row : Row_of-Surface l) (i j : ℕ) (c : List Part) (t : List ℕ) → one_of (world_in s m) k row i j c t → list_any (occurs s m) (need_surfaces row) ≡ true
    one-needed k end_of-Surface i j c t d = absurd d
    one-needed k (more_of-Surface p rest) i j c t (inl d) = or_left _ _ (surface-needed p i j c d.later d.goes)
    one-needed k (more_of-Surface p rest) i j c t (inr d) = or_right _ _ (one-needed (suc k) rest i j c t d)

  -- a pattern with a match has its need
  scan-needed : (p : Surface) → NotEmpty (scan_of p s m) → Occurs (need_surface p)
  scan-needed p h = step (scan_of p s m) h (scans_of p s m)
    where
      step : (ms : List Match) → NotEmpty ms → Scans (world_in s m) p 0 ms → Occurs (need_surface p)
      step [] h' d = absurd (h' refl)
      step (x ∷ xs) h' d = surface-needed p x.span.start x.span.end x.captures d.0.best.choices d.0.best.goes

  -- ## Paths

  label-needed : (v : Option Value) (place : ℕ) (edge : Edge) → slice_get s.edges place ≡ Some edge → fits_any v edge.label ≡ true → Occurs (need_label v)
  label-needed None place edge is h = occur-true
  label-needed (Some v) place edge is h = occur-edge v (any_there (λ (e : Edge). fits v e.label) s.edges place edge is h)

  repeat-needed : (A : Link) (least : ℕ) (most : Option ℕ) (n : Need) → ((a b : ℕ) → A a b → Occurs n) → (a b : ℕ) → Repeated A least most a b → Occurs (need_turns least n)
  repeat-needed A zero most n h a b d = occur-true
  repeat-needed A (suc least) most n h a b d = once d.0 d.1 d.3
    where
      once : (k : ℕ) → suc least ≤ k → Turned A k a b → Occurs n
      once zero le t = absurd (omega arith)
      once (suc k) le t = h a t.0 t.1

  mutual
    unfolding leads leads_on leads_by need_path need_paths

    -- a path that leads from a token to a token has its need
    path-needed : (p : Path) (a b : ℕ) → leads s p a b → Occurs (need_path p)
    path-needed (Along v) a b d = label-needed v d.place d.edge d.is_there d.label
    path-needed (Against v) a b d = label-needed v d.place d.edge d.is_there d.label
    path-needed (Filter c) a b d = fit-needed c a d.0
    path-needed (path.Seq' v row) a b d = occur-all _ (paths-needed row a b d)
    path-needed (path.Alt' v row) a b d = occur-some _ (some-needed row a b d)
    path-needed (path.Repeat' v (more_of-Path p end_of-Path) least most) a b d = repeat-needed (leads s p) least most (need_path p) (path-needed p) a b d

    paths-needed : {l : _} (row : Row_of-Path l) (a b : ℕ) → leads_on s row a b → Each Occurs (need_paths row)
    paths-needed end_of-Path a b d = tt
    paths-needed (more_of-Path p rest) a b d = (path-needed p a d.0 d.1, paths-needed rest d.0 b d.2)

    some-needed : {l : _} (row : Row_of-Path l) (a b : ℕ) → leads_by s row a b → list_any (occurs s m) (need_paths row) ≡ true
    some-needed end_of-Path a b d = absurd d
    some-needed (more_of-Path p rest) a b (inl d) = or_left _ _ (path-needed p a b d)
    some-needed (more_of-Path p rest) a b (inr d) = or_right _ _ (some-needed rest a b d)

  -- a path that reaches a token has its need
  reach-needed : (p : Path) (marked : Set) (b : ℕ) → reached s p marked b ≡ true → Occurs (need_path p)
  reach-needed p marked b e = let r = sound s p marked b e in path-needed p r.0 b r.2

  meet-needed : (p : Path) (marked : Set) (start end : ℕ) → meets (reached s p marked) start end ≡ true → Occurs (need_path p)
  meet-needed p marked start end e = let r = some_below end _ e in reach-needed p marked r.0 (and_parts _ _ r.2).1

  -- ## Hops

  -- a list after a further part has its path and its matches
  next-needed : (part : HopPart) (list : List Match) → NotEmpty (next_list s part.path (scan_of part.surface s m) list) → Each Occurs (need_part part)
  next-needed part list h =
      let matches : List Match = scan_of part.surface s m in
      let from = given_by (led_to s part.path matches) list h in
      let kept = passes (meets_match (reached s part.path (tokens_of from.0))) matches (λ none. from.1 (ap (map (pair_of from.0)) none)) in (
        meet-needed part.path (tokens_of from.0) kept.0.span.start kept.0.span.end kept.1,
        (scan-needed part.surface (λ none. from.1 (ap (λ ms. map (pair_of from.0) (filter (meets_match (reached s part.path (tokens_of from.0))) ms)) none)), tt),
      )

  -- the last list is that of the further parts
  last-later : (list next : List Match) (rest : List HopPart) → last_of (list ∷ lists_from s m next rest) ≡ last_of (lists_from s m next rest)
  last-later list next [] = refl
  last-later list next (part ∷ rest) = refl

  both-each : (xs ys : List Need) → Each Occurs xs → Each Occurs ys → Each Occurs (xs ++ ys)
  both-each [] ys h k = k
  both-each (x ∷ xs) ys h k = (h.0, both-each xs ys h.1 k)

  -- where the last list has a match, so has the first, and each further part has its need
  lists-needed : (list : List Match) (rest : List HopPart) → NotEmpty (last_of (lists_from s m list rest)) → NotEmpty list × Each Occurs (flat_map need_part rest)
  lists-needed list [] h = (h, tt)
  lists-needed list (part ∷ rest) h =
      let next : List Match = next_list s part.path (scan_of part.surface s m) list in
      let later = lists-needed next rest (λ none. h (last-later list next rest ∙ none)) in (
        (λ none. later.0 (ap (next_list s part.path (scan_of part.surface s m)) none)),
        both-each (need_part part) (flat_map need_part rest) (next-needed part list later.0) later.1,
      )

  hop-needed : (h : Hop) → NotEmpty (last_of (hop_lists h s m)) → Occurs (need_hop h)
  hop-needed h found =
      let all = lists-needed (scan_of h.first s m) h.rest found in
      parts (need_surface h.first) h.rest (scan-needed h.first all.0) all.1
    where
      parts : (first : Need) (rest : List HopPart) → Occurs first → Each Occurs (flat_map need_part rest) → Occurs (need_parts first rest)
      parts first [] one more = one
      parts first (part ∷ rest) one more = occur-all (first ∷ flat_map need_part (part ∷ rest)) (one, more)

  -- ## Events

  candidate-needed : (label : Option (List ℕ)) (p : Path) (marked : Set) → NotEmpty (candidates_in s m label (reached s p marked)) → Occurs (need_candidate label (need_path p))
  candidate-needed None p marked h =
      let k = passes (reached s p marked) (range_with_len 0 (length s.tokens)) (λ none. h (ap (map _) none)) in reach-needed p marked k.0 k.1
  candidate-needed (Some label) p marked h =
      let c = passes (is_chosen m label (reached s p marked)) (spans (length s.tokens)) h in
      let both = and_parts _ _ c.1 in
      occur-all _ (meet-needed p marked c.0.start c.0.end both.1, (span-needed label c.0.start c.0.end both.0, tt))

  many-needed : (many : Many) (a : Argument) (n : Need) (found : List Span) → NotEmpty (options_of many a found) → (NotEmpty found → Occurs n) → Occurs (need_many many n)
  many-needed One a n found h k = k (λ none. h (ap (each_alone a) none))
  many-needed Optional a n found h k = occur-true
  many-needed All a n found h k = occur-true
  many-needed AllOne a n found h k = k (λ none. h (ap (options_of AllOne a) none))

  -- where there is a product, each argument leaves an option
  options-needed : (t : Match) (arguments : List Argument) → NotEmpty (products (options_with arguments (candidates_at s m arguments t))) → Each Occurs (map need_argument arguments)
  options-needed t [] h = tt
  options-needed t (a ∷ arguments) h =
      let rest : List (List (List Part)) = options_with arguments (candidates_at s m arguments t) in
      let one = given_by (λ (o : List Part). map (λ (r : List Part). o ++ r) (products rest)) (options_of a.many a (candidates_of s m t a)) h in (
        many-needed a.many a (need_candidate a.label (need_path a.path)) (candidates_of s m t a)
            (λ none. h (ap (flat_map (λ (o : List Part). map (λ (r : List Part). o ++ r) (products rest))) none))
            (candidate-needed a.label a.path (tokens_of t)),
        options-needed t arguments (λ none. one.1 (ap (map _) none)),
      )

  event-needed : (r : Rule) (d k : ℕ) (e : EventRule) → NotEmpty (event_mentions r d k e s m) → Occurs (need_event e)
  event-needed r d k e h =
      let t = given_by (mentions_at r d k s m e.arguments) (scan_of e.trigger s m) h in
      occur-all (need_surface e.trigger ∷ map need_argument e.arguments) (
        scan-needed e.trigger (λ none. h (ap (flat_map (mentions_at r d k s m e.arguments)) none)),
        options-needed t.0 e.arguments (λ none. t.1 (ap (map _) none)),
      )

  -- ## Rules

  body-needed : (r : Rule) (d k : ℕ) (body : Body) → (body_outcome r d k s m body ≡ mentions [] → ⊥) → Occurs (need_body body)
  body-needed r d k (Basic h) some =
      hop-needed h (λ none. some (
      ap (λ c. outcome_of c (distinct (map (mention_at r d k) (last_of (hop_lists h s m))))) ((hop_count-none most_found (hop_lists h s m)).1 (inl none))
      ∙ ap (λ ms. mentions (distinct (map (mention_at r d k) ms))) none
      ))
  body-needed r d k (Event e) some =
      event-needed r d k e (λ none. some (
      ap (λ c. outcome_of c (event_mentions r d k e s m)) ((event_count-none most_found r d k e s m).1 (let n : length (event_mentions r d k e s m) ≡ 0 = ap length none in omega arith))
      ∙ ap mentions none
      ))

pub found-is-needed : FoundIsNeeded
unfolding rule_mentions
found-is-needed r d k s state some = body-needed s (map labelled state) r d k r.body some

pub candidates-keep-all : CandidatesKeepAll
candidates-keep-all known rule site some = found-is-needed rule.1 site.document site.number site.words _ some

pub pruned-is-round : PrunedIsRound
pruned-is-round ss g r old = kept-is-round (needed (distinct old)) ss g r old (λ rule. candidates-keep-all (distinct old) rule)
