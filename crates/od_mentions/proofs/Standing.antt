-- What stands at the places of the mentions that pass a test.
use Rattle.std.proofs.Common.{◌≡◌, ℕ, suc, ◌+◌, ◌≤◌, ◌<◌, get_or, List, [], ◌∷◌, ◌++◌, length, take, drop, filter, map, slice_get, Option, Some, None, Bool, true, false, cond, ◌||◌, ◌&&◌, refl, sym, ap, ap₂, ◌∙◌, arith, append_assoc, append-nil, length-append, eq-eqb, take-append-drop}
use Rattle.std.specs.Prelude.{nat_eq, ◌==◌, bytes_eq}
use Rattle.std.specs.Option.{option_to_list}
use Rattle.std.specs.List.{list_any}
use Rattle.std.proofs.lemmas.Bool.{and_parts, eqb-true}
use Rattle.std.proofs.lemmas.List.{take_more, map-append}
use Rattle.std.proofs.lemmas.List.Concat.{flat_map-append}
use Rattle.std.proofs.lemmas.List.Elements.{filter-append}
use Rattle.std.proofs.lemmas.Option.{slice_get_past}
use Rattle.std.proofs.lemmas.Slice.Eq.{bytes_eq-Decides}
use Rattle.od_text.proofs.Lists.{slice_get-append}
use Rattle.od_extraction.specs.declared.mention.Mention.{Mention}
use Rattle.od_extraction.specs.Mentions.{same_mention, is_among}
use Rattle.od_extraction.proofs.Sameness.{mention-Decides}
use Rattle.od_matching.specs.Rounds.Round.{in_sentence}
use Rattle.od_matching.specs.Rounds.States.{places_with}
use Rattle.od_mentions.specs.Hashes.{mention_hash, sentence_hash, label_hash}
use Rattle.od_mentions.specs.Indexes.{hash_by_sentence, hash_by_label}
use Rattle.od_mentions.specs.Places.{places_by, found_at, is_same, has_at}
use Rattle.od_mentions.proofs.Filters.{list_any-filter, filter-filter}

-- ## Places

append-step : (n : ℕ) (P Q R R' : List ℕ) (b : Bool) → P ≡ Q ++ R → R ≡ R' → cond b (n ∷ P) P ≡ cond b (n ∷ Q) Q ++ R'
append-step n P Q R R' true e r = ap (λ z. n ∷ z) (e ∙ ap (λ z. Q ++ z) r)
append-step n P Q R R' false e r = e ∙ ap (λ z. Q ++ z) r

pub places-append : (t : Mention → Bool) (n : ℕ) (a b : List Mention) → places_by t n (a ++ b) ≡ places_by t n a ++ places_by t (n + length a) b
places-append t n [] b = let e : n ≡ n + 0 = omega arith in ap (λ k. places_by t k b) e
places-append t n (x ∷ a) b =
    let k : suc n + length a ≡ n + suc (length a) = omega arith in
    append-step n (places_by t (suc n) (a ++ b)) (places_by t (suc n) a) (places_by t (suc n + length a) b) (places_by t (n + suc (length a)) b) (t x)
    (places-append t (suc n) a b) (ap (λ z. places_by t z b) k)

-- ## What stands there

found-step : (all : List Mention) (n : ℕ) (P : List ℕ) (m : Mention) (F : List Mention) (b : Bool) → slice_get all n ≡ Some m → found_at all P ≡ F
    → found_at all (cond b (n ∷ P) P) ≡ cond b (m ∷ F) F
found-step all n P m F true at e = ap₂ (λ o f. option_to_list o ++ f) at e
found-step all n P m F false at e = e

-- those that pass stand at their places
found-from : (t : Mention → Bool) (before ms after : List Mention) → found_at (before ++ (ms ++ after)) (places_by t (length before) ms) ≡ filter t ms
found-from t before [] after = refl
found-from t before (m ∷ ms) after =
    let all = before ++ (m ∷ ms ++ after) in
    let long : length (before ++ m ∷ []) ≡ suc (length before) = omega (arith, length-append before (m ∷ [])) in
    let rest : found_at all (places_by t (suc (length before)) ms) ≡ filter t ms =
    ap₂ (λ l k. found_at l (places_by t k ms)) (sym (append_assoc before (m ∷ []) (ms ++ after))) (sym long) ∙ found-from t (before ++ m ∷ []) ms after in
    found-step all (length before) (places_by t (suc (length before)) ms) m (filter t ms) (t m) (slice_get-append before m (ms ++ after)) rest

-- at the places of all that pass stand these
found-all : (t : Mention → Bool) (ms : List Mention) → found_at ms (places_by t 0 ms) ≡ filter t ms
found-all t ms = ap (λ l. found_at l (places_by t 0 ms)) (sym (append-nil ms)) ∙ found-from t [] ms []

past-step : (all : List Mention) (n : ℕ) (P : List ℕ) (b : Bool) → slice_get all n ≡ None → found_at all P ≡ [] → found_at all (cond b (n ∷ P) P) ≡ []
past-step all n P true at e = ap₂ (λ o f. option_to_list o ++ f) at e
past-step all n P false at e = e

-- nothing stands behind the end
found-past : (t : Mention → Bool) (all ms : List Mention) (n : ℕ) → length all ≤ n → found_at all (places_by t n ms) ≡ []
found-past t all [] n h = refl
found-past t all (m ∷ ms) n h = past-step all n (places_by t (suc n) ms) (t m) (slice_get_past all n h) (found-past t all ms (suc n) (omega arith))

-- in a front stand, at the places of all that pass, those of the front
found-front : (t : Mention → Bool) (count : ℕ) (ms : List Mention) → found_at (take count ms) (places_by t 0 ms) ≡ filter t (take count ms)
found-front t count ms =
    let a = take count ms in
    let b = drop count ms in
    ap (λ xs. found_at a (places_by t 0 xs)) (sym (take-append-drop count ms))
    ∙ ap (found_at a) (places-append t 0 a b)
    ∙ flat_map-append (λ place. option_to_list (slice_get a place)) (places_by t 0 a) (places_by t (0 + length a) b)
    ∙ ap₂ (λ xs ys. xs ++ ys) (found-all t a) (found-past t a b (0 + length a) (omega arith))
    ∙ append-nil (filter t a)

-- what stands at one place more
found-more : (ms : List Mention) (places : List ℕ) (i : ℕ) → i < length places
    → found_at ms (take (i + 1) places) ≡ found_at ms (take i places) ++ option_to_list (slice_get ms (get_or places i 0))
found-more ms places i h =
    let p = get_or places i 0 in
    ap (found_at ms) (take_more places i 0 h)
    ∙ flat_map-append (λ place. option_to_list (slice_get ms place)) (take i places) (p ∷ [])
    ∙ ap (λ xs. found_at ms (take i places) ++ xs) (append-nil (option_to_list (slice_get ms p)))

-- ## A mention

any-at : (m : Mention) (o : Option Mention) (rest : Bool) (ms : List Mention) → rest ≡ list_any (same_mention m) ms
    → (is_same m o || rest) ≡ list_any (same_mention m) (option_to_list o ++ ms)
any-at m None rest ms e = e
any-at m (Some x) rest ms e = ap (λ z. same_mention m x || z) e

any-found : (ms : List Mention) (m : Mention) (ps : List ℕ) → list_any (has_at ms m) ps ≡ list_any (same_mention m) (found_at ms ps)
any-found ms m [] = refl
any-found ms m (p ∷ ps) = any-at m (slice_get ms p) (list_any (has_at ms m) ps) (found_at ms ps) (any-found ms m ps)

-- a mention is among them exactly where it stands at a place of its hash
pub held : (ms : List Mention) (m : Mention) (hash : ℕ) → hash ≡ mention_hash m
    → list_any (has_at ms m) (places_by (λ x. nat_eq (mention_hash x) hash) 0 ms) ≡ is_among ms m
held ms m hash is =
    let t : Mention → Bool = λ x. nat_eq (mention_hash x) hash in
    any-found ms m (places_by t 0 ms)
    ∙ ap (list_any (same_mention m)) (found-all t ms)
    ∙ list_any-filter (same_mention m) t (λ x same. eq-eqb (mention_hash x) hash (sym (is ∙ ap mention_hash ((mention-Decides m x).0 same)))) ms

-- ## Of a sentence

abbrev is_in : ℕ → ℕ → Mention → Bool
is_in document sentence m = m.document == document && m.sentence == sentence

-- in a front stand, at the places of a sentence's hash, the mentions of this sentence
pub in_sentence-found : (ms : List Mention) (count document sentence hash : ℕ) → hash ≡ sentence_hash document sentence
    → in_sentence document sentence (found_at (take count ms) (places_by (λ x. nat_eq (hash_by_sentence x) hash) 0 ms)) ≡ in_sentence document sentence (take count ms)
in_sentence-found ms count document sentence hash is =
    let t : Mention → Bool = λ x. nat_eq (hash_by_sentence x) hash in
    let wider : (x : Mention) → is_in document sentence x ≡ true → t x ≡ true = λ x e.
    let both = and_parts (x.document == document) (x.sentence == sentence) e in
    eq-eqb (hash_by_sentence x) hash (ap₂ sentence_hash (eqb-true x.document document both.0) (eqb-true x.sentence sentence both.1) ∙ sym is) in
    ap (in_sentence document sentence) (found-front t count ms) ∙ filter-filter (is_in document sentence) t wider (take count ms)

-- one place more
pub in_sentence-more : (ms : List Mention) (places : List ℕ) (i document sentence : ℕ) → i < length places
    → in_sentence document sentence (found_at ms (take (i + 1) places))
    ≡ in_sentence document sentence (found_at ms (take i places)) ++ in_sentence document sentence (option_to_list (slice_get ms (get_or places i 0)))
in_sentence-more ms places i document sentence h =
    ap (in_sentence document sentence) (found-more ms places i h)
    ∙ filter-append (is_in document sentence) (found_at ms (take i places)) (option_to_list (slice_get ms (get_or places i 0)))

-- ## With a label

abbrev has_label : List ℕ → Mention → Bool
has_label label m = bytes_eq m.label label

-- at the places of a label's hash stand the mentions with this label
pub places_with-found : (ms : List Mention) (label : List ℕ) (hash : ℕ) → hash ≡ label_hash label
    → places_with label (found_at ms (places_by (λ x. nat_eq (hash_by_label x) hash) 0 ms)) ≡ places_with label ms
places_with-found ms label hash is =
    let t : Mention → Bool = λ x. nat_eq (hash_by_label x) hash in
    let wider : (x : Mention) → has_label label x ≡ true → t x ≡ true = λ x e. eq-eqb (hash_by_label x) hash (ap label_hash ((bytes_eq-Decides x.label label).0 e) ∙ sym is) in
    ap (places_with label) (found-all t ms) ∙ ap (map (λ (m : Mention). (m.document, m.sentence))) (filter-filter (has_label label) t wider ms)

-- one place more
pub places_with-more : (ms : List Mention) (places : List ℕ) (i : ℕ) (label : List ℕ) → i < length places
    → places_with label (found_at ms (take (i + 1) places))
    ≡ places_with label (found_at ms (take i places)) ++ places_with label (option_to_list (slice_get ms (get_or places i 0)))
places_with-more ms places i label h =
    let front = found_at ms (take i places) in
    let last = option_to_list (slice_get ms (get_or places i 0)) in
    ap (places_with label) (found-more ms places i h)
    ∙ ap (map (λ (m : Mention). (m.document, m.sentence))) (filter-append (has_label label) front last)
    ∙ map-append (λ (m : Mention). (m.document, m.sentence)) (filter (has_label label) front) (filter (has_label label) last)
