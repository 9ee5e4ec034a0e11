-- What is wanted in each segment chooses the sentences at which the need occurs.
use Rattle.std.proofs.Common.{◌≡◌, ℕ, zero, suc, ◌+◌, ◌-◌, ◌<◌, ◌≤◌, Bool, true, false, cond, List, [], ◌∷◌, ◌++◌, length, take, map, filter, length-take-le, refl, sym, ap, ap₂, ◌∙◌, subst, arith}
use Rattle.std.proofs.Math.Path.{fun_ext}
use Rattle.std.proofs.lemmas.List.Elements.{filter-append}
use Rattle.std.proofs.lemmas.Option.{slice_get_within, slice_get-map}
use Rattle.std.specs.Prelude.{◌&&◌, ◌||◌, Option, Some, None, slice_get, option_map, bytes_eq, IsSomeAnd}
use Rattle.std.specs.List.{list_any, range_with_len, sum_by}
use Rattle.od_text.specs.Lists.{Each}
use Rattle.od_document.specs.declared.sentence.Sentence.{Sentence}
use Rattle.od_extraction.specs.declared.mention.Labelled.{Labelled}
use Rattle.od_extraction.specs.declared.mention.Mention.{Mention}
use Rattle.od_index.specs.Postings.{postings}
use Rattle.od_index.specs.Segments.{Stored, size, sites_after}
use Rattle.od_index.specs.Sentences.{HasTerms}
use Rattle.od_index.specs.Sites.{Site, later, sentences_in}
use Rattle.od_index.specs.Terms.{Term, sentence_terms}
use Rattle.od_index.specs.Views.{Place, Seen, places, site_at, sites_seen}
use Rattle.od_index.proofs.Numbered.{map-map}
use Rattle.od_index.proofs.Places.{each-place-has-site}
use Rattle.od_matching.specs.Matching.Rules.{labelled}
use Rattle.od_matching.specs.Rounds.Round.{known_at, in_sentence}
use Rattle.od_need.proofs.Posted.{posted-where-occurs}
use Rattle.od_need.specs.Candidates.{candidates, occurs_at}
use Rattle.od_need.specs.Occurs.{some_label}
use Rattle.od_need.specs.declared.need.Need.{Need}
use Rattle.od_search.specs.Posted.{has_posting}
use Rattle.od_segment.specs.Placed.{AreServed}
use Rattle.od_segment.specs.Seen.{documents_before, is_of_first, place_of}
use Rattle.od_segment.proofs.Seeing.{before-more, before-all, places-snoc, take-segment, of-first-moved, filter-map, site-from}
use Rattle.od_segment.specs.declared.view.SentenceRef.{SentenceRef}
use Rattle.std.proofs.lemmas.List.{map-append}
use Rattle.std.proofs.lemmas.Slice.Eq.{bytes_eq-Decides}
use Rattle.od_search.proofs.Heads.{filter-more}
use Rattle.od_plan.proofs.Parts.{any-next}
use Rattle.od_plan.proofs.Filters.{same-kept, both-kept}
use Rattle.od_plan.specs.Chosen.{kept_in, occurs_there, chosen}
use Rattle.od_plan.specs.Found.{is_posted, list_or_none, lists_of, label_there, wanted_in}
use Rattle.od_plan.specs.Means.{Means, stands_in, term_stands}
use Rattle.od_plan.specs.Wanted.{wanted}
use Rattle.od_plan.specs.declared.wanted.Wanted.{Wanted}

-- ## Posting lists

-- a number is posted at a sentence exactly where its term stands there
posted-stands : (table : List Term) (ss : List Sentence) (n i : ℕ) (s : Sentence) → slice_get ss i ≡ Some s
    → is_posted (map (λ term. postings term ss) table) n i ≡ stands_in table s n
posted-stands table ss n i s at = ap (λ (o : Option (List (ℕ × ℕ))). has_posting (list_or_none o) i) (slice_get-map (λ (term : Term). postings term ss) table n) ∙ by (slice_get table n)
  where
    by : (o : Option Term) → has_posting (list_or_none (option_map (λ (term : Term). postings term ss) o)) i ≡ term_stands s o
    by None = refl
    by (Some term) = posted-where-occurs term.0 term.1 ss i s at

-- the sentence of a site
words-at : (ss : List Site) (i : ℕ) (site : Site) → slice_get ss i ≡ Some site → slice_get (sentences_in ss) i ≡ Some site.words
words-at ss i site at = slice_get-map (λ (s : Site). s.words) ss i ∙ ap (option_map (λ (s : Site). s.words)) at

each-at : {X : Type 0} (P : X → Type 0) (xs : List X) (i : ℕ) (x : X) → Each P xs → slice_get xs i ≡ Some x → P x
each-at P [] i x all e = absurd (let q : ◌≡◌ {A = Option _} None (Some x) = e in cc)
each-at P (y ∷ xs) zero x all e = let same : y ≡ x = (let p : Some y ≡ Some x = e in cc) in subst P same all.0
each-at P (y ∷ xs) (suc i) x all e = each-at P xs i x all.1 e

-- at a sentence of a segment what is wanted there is what the need says
wanted-occurs : (known : List Mention) (first : ℕ) (s : Stored) (need : Need) (w : Wanted) (i : ℕ) (site : Site) → AreServed s.table s.sites → Means s.table need w → slice_get s.sites i ≡ Some site
    → wanted_in known first s w i ≡ occurs_at known need (later first site)
wanted-occurs known first s need w i site served means at =
    let ss : List Sentence = sentences_in s.sites in
    let labels : List Labelled = map labelled (known_at known (later first site)) in
    let stands : (λ (n : ℕ). is_posted (lists_of s) n i) ≡ stands_in s.table site.words = fun_ext (λ n. posted-stands s.table ss n i site.words (words-at s.sites i site at)) in
    let marks : (λ (name : List ℕ). label_there known first name (slice_get s.sites i)) ≡ some_label labels = fun_ext (λ name. ap (label_there known first name) at) in
    ap₂ (λ (f : ℕ → Bool) (g : List ℕ → Bool). wanted f g w) stands marks
    ∙ means site.words labels (each-at (λ (x : Site). HasTerms s.table (sentence_terms x.words)) s.sites i site served at)

and-comm : (a b : Bool) → (a && b) ≡ (b && a)
and-comm true true = refl
and-comm true false = refl
and-comm false true = refl
and-comm false false = refl

-- the same of whether it is seen too
test-same : (d first : ℕ) (known : List Mention) (s : Stored) (need : Need) (w : Wanted) (i : ℕ) → AreServed s.table s.sites → Means s.table need w
    → (is_of_first d (option_map (later first) (slice_get s.sites i)) && occurs_there known need (option_map (later first) (slice_get s.sites i)))
    ≡ (wanted_in known first s w i && is_of_first (d - first) (slice_get s.sites i))
test-same d first known s need w i served means = by (slice_get s.sites i) refl
  where
    by : (o : Option Site) → slice_get s.sites i ≡ o
        → (is_of_first d (option_map (later first) o) && occurs_there known need (option_map (later first) o)) ≡ (wanted_in known first s w i && is_of_first (d - first) o)
    by None at = sym (and-comm (wanted_in known first s w i) false)
    by (Some site) at =
        ap₂ (λ a b. a && b) (of-first-moved d first (Some site)) (sym (wanted-occurs known first s need w i site served means at))
        ∙ and-comm (is_of_first (d - first) (Some site)) (wanted_in known first s w i)

-- ## One segment more

pub chosen-more : (v : Seen) (known : List Mention) (need : Need) (n first : ℕ) (s : Stored) (w : Wanted) → slice_get v.segments n ≡ Some s → first ≡ documents_before v.segments n
    → AreServed s.table s.sites → Means s.table need w
    → chosen v known need (take (n + 1) v.segments) ≡ chosen v known need (take n v.segments) ++ kept_in s n (v.documents - first) (filter (wanted_in known first s w) (range_with_len 0 (length s.sites)))
chosen-more v known need n first s w at is served means =
    let segments = v.segments in
    let within : n < length segments = slice_get_within segments n s at in
    let long : length (take n segments) ≡ n = length-take-le n segments (omega (arith, within)) in
    let test : Place → Bool = λ p. is_of_first v.documents (site_at segments p) && occurs_there known need (site_at segments p) in
    let none : 0 + documents_before segments n ≡ first = omega (arith, is) in
    let range : List ℕ = range_with_len 0 (length s.sites) in
    let place : (i : ℕ) → site_at segments (n, i) ≡ option_map (later first) (slice_get s.sites i) = λ i. site-from 0 segments n i s at ∙ ap (λ k. option_map (later k) (slice_get s.sites i)) none in
    let same : (i : ℕ) → test (n, i) ≡ (wanted_in known first s w i && is_of_first (v.documents - first) (slice_get s.sites i)) = λ i.
    ap (λ (o : Option Site). is_of_first v.documents o && occurs_there known need o) (place i) ∙ test-same v.documents first known s need w i served means in
    let here : filter test (map (λ (i : ℕ). (n, i)) range) ≡ kept_in s n (v.documents - first) (filter (wanted_in known first s w) range) =
    sym (filter-map (λ (i : ℕ). (n, i)) test range)
    ∙ ap (map (λ (i : ℕ). (n, i)))
    (same-kept (λ i. test (n, i)) (λ i. wanted_in known first s w i && is_of_first (v.documents - first) (slice_get s.sites i)) same range
    ∙ sym (both-kept (wanted_in known first s w) (λ i. is_of_first (v.documents - first) (slice_get s.sites i)) range)) in
    ap (chosen v known need) (take-segment segments n s at)
    ∙ ap (filter test) (places-snoc (take n segments) s)
    ∙ filter-append test (places (take n segments)) (map (λ i. (length (take n segments), i)) (range_with_len 0 (size s)))
    ∙ ap (λ k. chosen v known need (take n segments) ++ filter test (map (λ i. (k, i)) (range_with_len 0 (size s)))) long
    ∙ ap (λ ps. chosen v known need (take n segments) ++ ps) here

-- ## What stands there

two-kept : {X : Type 0} (p q : X → Bool) (xs : List X) → filter (λ x. p x && q x) xs ≡ filter q (filter p xs)
two-kept p q [] = refl
two-kept {X = X} p q (x ∷ xs) = step (p x) (two-kept p q xs)
  where
    step : (b : Bool) → filter (λ x. p x && q x) xs ≡ filter q (filter p xs)
        → cond (b && q x) (x ∷ filter (λ x. p x && q x) xs) (filter (λ x. p x && q x) xs) ≡ filter q (cond b (x ∷ filter p xs) (filter p xs))
    step true e = ap (λ ys. cond (q x) (x ∷ ys) ys) e
    step false e = e

pub chosen-given : (v : Seen) (known : List Mention) (need : Need) → map (site_at v.segments) (chosen v known need v.segments) ≡ map Some (candidates need (sites_seen v) known)
chosen-given v known need =
    let test : Option Site → Bool = λ o. is_of_first v.documents o && occurs_there known need o in
    filter-map (site_at v.segments) test (places v.segments)
    ∙ ap (filter test) (each-place-has-site v.segments)
    ∙ sym (filter-map Some test (sites_after 0 v.segments))
    ∙ ap (map Some) (two-kept (λ (site : Site). is_of_first v.documents (Some site)) (occurs_at known need) (sites_after 0 v.segments))

-- of the places that some references name
pub sites-named : (v : Seen) (xs : List SentenceRef) → map (λ at. site_at v.segments (place_of at)) xs ≡ map (site_at v.segments) (map place_of xs)
sites-named v xs = sym (map-map (site_at v.segments) place_of xs)

-- ## Labels

pub label-known : (known : List Mention) (first d k : ℕ) (name : List ℕ) (o : Option Site) → IsSomeAnd o (λ s. (s.document ≡ d) × (s.number ≡ k))
    → list_any (λ (m : Mention). bytes_eq m.label name) (in_sentence (first + d) k known) ≡ label_there known first name o
label-known known first d k name None h = absurd h
label-known known first d k name (Some site) h =
    ap₂ (λ (a b : ℕ). list_any (λ (m : Mention). bytes_eq m.label name) (in_sentence (first + a) b known)) (sym h.0) (sym h.1)
    ∙ sym (any-map (λ (l : Labelled). bytes_eq l.label name) labelled (known_at known (later first site)))
  where
    any-map : {X Y : Type 0} (test : Y → Bool) (f : X → Y) (xs : List X) → list_any test (map f xs) ≡ list_any (λ x. test (f x)) xs
    any-map test f [] = refl
    any-map test f (x ∷ xs) = ap (λ b. test (f x) || b) (any-map test f xs)

-- a segment with those before it has at most all documents
pub documents-within : (segments : List Stored) (n : ℕ) (s : Stored) → slice_get segments n ≡ Some s → documents_before segments n + s.documents ≤ sum_by (λ (x : Stored). x.documents) segments
documents-within segments n s at = omega (arith, before-more segments n s at, before-all segments (n + 1))

-- of some sentences one more
abbrev at_place : ℕ → ℕ → Place
at_place place i = (place, i)

pub kept-more : (s : Stored) (place left : ℕ) (sentences : List ℕ) (k i : ℕ) → slice_get sentences k ≡ Some i
    → kept_in s place left (take (k + 1) sentences) ≡ kept_in s place left (take k sentences) ++ cond (is_of_first left (slice_get s.sites i)) ((place, i) ∷ []) []
kept-more s place left sentences k i at =
    let f : ℕ → Place = at_place place in
    ap (map f) (filter-more (λ i. is_of_first left (slice_get s.sites i)) sentences k i at)
    ∙ map-append f (filter (λ i. is_of_first left (slice_get s.sites i)) (take k sentences)) (cond (is_of_first left (slice_get s.sites i)) (i ∷ []) [])
    ∙ ap (λ (ps : List Place). kept_in s place left (take k sentences) ++ ps) (last (is_of_first left (slice_get s.sites i)))
  where
    last : (b : Bool) → map (at_place place) (cond b (i ∷ []) []) ≡ cond b ((place, i) ∷ []) []
    last true = refl
    last false = refl

-- ## Some mention

pub any-place : {X Y : Type 0} (q : X → Bool) (p : Y → Bool) (f : X → Y) (xs : List X) (k : ℕ) (x : X) → slice_get xs k ≡ Some x → p (f x) ≡ true → list_any p (map f xs) ≡ true
any-place q p f [] k x at h = absurd (let e : ◌≡◌ {A = Option _} None (Some x) = at in cc)
any-place q p f (y ∷ xs) zero x at h = let e : y ≡ x = (let r : Some y ≡ Some x = at in cc) in ap (λ b. b || list_any p (map f xs)) (ap (λ z. p (f z)) e ∙ h)
any-place q p f (y ∷ xs) (suc k) x at h = ap (λ b. p (f y) || b) (any-place q p f xs k x at h) ∙ or-true (p (f y))
  where
    or-true : (b : Bool) → (b || true) ≡ true
    or-true true = refl
    or-true false = refl

pub any-none-more : {X Y : Type 0} (p : Y → Bool) (f : X → Y) (xs : List X) (k : ℕ) (x : X) → slice_get xs k ≡ Some x → p (f x) ≡ false → list_any p (map f (take k xs)) ≡ false
    → list_any p (map f (take (k + 1) xs)) ≡ false
any-none-more {X = X} p f xs k x at h so =
    any-map (take (k + 1) xs) ∙ any-next (λ (z : X). p (f z)) xs k x at ∙ ap₂ (λ a b. a || b) (sym (any-map (take k xs)) ∙ so) h
  where
    any-map : (ys : List X) → list_any p (map f ys) ≡ list_any (λ y. p (f y)) ys
    any-map [] = refl
    any-map (y ∷ ys) = ap (λ b. p (f y) || b) (any-map ys)

pub told-true : (a b : List ℕ) → a ≡ b → bytes_eq a b ≡ true
told-true a b e = (bytes_eq-Decides a b).1 e

pub told-false : (a b : List ℕ) → (a ≡ b → ⊥) → bytes_eq a b ≡ false
told-false a b h = by (bytes_eq a b) refl
  where
    by : (t : Bool) → bytes_eq a b ≡ t → t ≡ false
    by true e = absurd (h ((bytes_eq-Decides a b).0 e))
    by false e = refl
