-- The edges of word lines lie between their tokens, and no two are equal.
use Rattle.std.proofs.Common.{◌≡◌, ℕ, ◌+◌, ◌-◌, ◌<◌, ◌≤◌, List, [], ◌∷◌, ◌++◌, length, Bool, true, false, refl, sym, ap, ◌∙◌, arith, Option, None, Some, append_assoc, not}
use Rattle.std.specs.Prelude.{◌==◌, ◌&&◌, if◌then◌else◌, nat_lt}
use Rattle.std.specs.Option.{option_map}
use Rattle.std.specs.List.{find, list_all, AllPairs}
use Rattle.std.specs.Str.{bytes_eq}
use Rattle.std.specs.Bool.{Decides}
use Rattle.std.proofs.lemmas.Bool.Decides.{Decides-and, Decides-eqb}
use Rattle.std.proofs.lemmas.Slice.Eq.{bytes_eq-Decides}
use Rattle.std.proofs.lemmas.List.Sums.{AllPass-from_list_all}
use Rattle.std.proofs.lemmas.List.Kept.{AllPairs-cons}
use Rattle.std.proofs.lemmas.List.{append-nil}
use Rattle.std.proofs.lemmas.Bool.{ltb-false, lt-ltb, eqb-false, ne_eqb}
use Rattle.od_document.specs.declared.token.Edge.{Edge}
use Rattle.od_document.specs.Words.{WordLine, edges_from, edge_of, head_number}
use Rattle.od_document.specs.Columns.{edge_label}
use Rattle.od_document.specs.Faults.{heads_fault}
use Rattle.od_document.specs.Edges.{EndsWithin, AreDistinct, all_differ, same_edge}
use Rattle.od_document.specs.Building.{ends_within, Decides-ends_within}

-- the edges of one more word line
pub edges_from-snoc : (p : ℕ) (ws : List WordLine) (w : WordLine) → edges_from p (ws ++ w ∷ []) ≡ edges_from p ws ++ edge_of (p + length ws) w
edges_from-snoc p [] w = let z : p + 0 ≡ p = omega arith in rw z (append-nil (edge_of p w))
edges_from-snoc p (v ∷ ws) w =
    let z : (p + 1) + length ws ≡ p + length (v ∷ ws) = omega arith in
    ap (λ es. edge_of p v ++ es) (edges_from-snoc (p + 1) ws w ∙ ap (λ n. edges_from (p + 1) ws ++ edge_of n w) z) ∙ sym (append_assoc (edge_of p v) (edges_from (p + 1) ws) (edge_of (p + length (v ∷ ws)) w))

found_none : {A : Type 0} (t : Bool) (x : A) (o : Option A) → (if t then Some x else o) ≡ None → (t ≡ false) × (o ≡ None)
found_none true x o e = absurd (cc)
found_none false x o e = (refl, e)

pub map_none : {A B : Type 0} (f : A → B) (o : Option A) → option_map f o ≡ None → o ≡ None
map_none f None e = refl
map_none f (Some x) e = absurd (cc)

-- without a fault no head is greater than the count
pub heads_below : (count : ℕ) (w : WordLine) (ws : List WordLine) → heads_fault count (w ∷ ws) ≡ None → (head_number w ≤ count) × (heads_fault count ws ≡ None)
heads_below count w ws e =
    let f = found_none (nat_lt count (head_number w)) w (find (λ v. nat_lt count (head_number v)) ws) (map_none _ _ e) in
    (ltb-false _ _ f.0, ap (option_map (λ (v : WordLine). record { line = v.line; kind = _ })) f.1)

-- the edges of the first word line stand within, where those of the others do
within-cons : (count p : ℕ) (w : WordLine) (es : List Edge) → head_number w ≤ count → p < count → ends_within count es ≡ true → ends_within count (edge_of p w ++ es) ≡ true
within-cons count p w es low here more = by (head_number w == 0) refl
  where
    by : (t : Bool) → (head_number w == 0) ≡ t → ends_within count ((if t then [] else record { governor = head_number w - 1; dependent = p; label = edge_label w.columns.deprel } ∷ []) ++ es) ≡ true
    by true e = more
    by false e =
        let governor : nat_lt (head_number w - 1) count ≡ true = lt-ltb (head_number w - 1) count (omega (arith, eqb-false _ _ e)) in
        rw (governor, lt-ltb p count here) more

ends_within-edges : (count p : ℕ) (ws : List WordLine) → heads_fault count ws ≡ None → p + length ws ≤ count → ends_within count (edges_from p ws) ≡ true
ends_within-edges count p [] none h = refl
ends_within-edges count p (w ∷ ws) none h =
    let low = heads_below count w ws none in
    within-cons count p w (edges_from (p + 1) ws) low.0 (omega arith) (ends_within-edges count (p + 1) ws low.1 (omega arith))

-- the edges of word lines whose heads are in range lie between their tokens
pub EndsWithin-edges : (ws : List WordLine) → heads_fault (length ws) ws ≡ None → EndsWithin (length ws) (edges_from 0 ws)
EndsWithin-edges ws none = (Decides-ends_within (length ws) (edges_from 0 ws)).0 (ends_within-edges (length ws) 0 ws none (omega arith))

not_same : (a b c d : Bool) → b ≡ false → d ≡ true → (not (a && b && c) && d) ≡ true
not_same true b c d eb ed = rw (eb, ed) refl
not_same false b c d eb ed = ed

-- an edge of an earlier dependent is none of the edges of these words
apart-cons : (e : Edge) (p : ℕ) (w : WordLine) (es : List Edge) → e.dependent < p → list_all (λ f. not (same_edge e f)) es ≡ true → list_all (λ f. not (same_edge e f)) (edge_of p w ++ es) ≡ true
apart-cons e p w es less more = by (head_number w == 0)
  where
    by : (t : Bool) → list_all (λ f. not (same_edge e f)) ((if t then [] else record { governor = head_number w - 1; dependent = p; label = edge_label w.columns.deprel } ∷ []) ++ es) ≡ true
    by true = more
    by false =
        let apart : (e.dependent == p) ≡ false = ne_eqb e.dependent p (λ z. omega (arith, z)) in
        not_same (e.governor == head_number w - 1) (e.dependent == p) (bytes_eq e.label (edge_label w.columns.deprel)) (list_all (λ f. not (same_edge e f)) es) apart more

edges_from-apart : (e : Edge) (p : ℕ) (ws : List WordLine) → e.dependent < p → list_all (λ f. not (same_edge e f)) (edges_from p ws) ≡ true
edges_from-apart e p [] less = refl
edges_from-apart e p (w ∷ ws) less = apart-cons e p w (edges_from (p + 1) ws) less (edges_from-apart e (p + 1) ws (omega arith))

-- no two of the edges of word lines are equal
all_differ-edges : (p : ℕ) (ws : List WordLine) → all_differ (edges_from p ws) ≡ true
all_differ-edges p [] = refl
all_differ-edges p (w ∷ ws) = by (head_number w == 0) (all_differ-edges (p + 1) ws)
  where
    by : (t : Bool) → all_differ (edges_from (p + 1) ws) ≡ true → all_differ ((if t then [] else record { governor = head_number w - 1; dependent = p; label = edge_label w.columns.deprel } ∷ []) ++ edges_from (p + 1) ws) ≡ true
    by true more = more
    by false more = rw (edges_from-apart (record { governor = head_number w - 1; dependent = p; label = edge_label w.columns.deprel }) (p + 1) ws (omega arith), more) refl

pub AreDistinct-edges : (ws : List WordLine) → AreDistinct (edges_from 0 ws)
AreDistinct-edges ws = all_differ-edges 0 ws

-- the test of two edges says whether they are equal
pub same_edge-Decides : (e f : Edge) → Decides (same_edge e f) (e ≡ f)
same_edge-Decides e f =
    let parts = Decides-and (e.governor == f.governor && e.dependent == f.dependent) (bytes_eq e.label f.label)
    (Decides-and (e.governor == f.governor) (e.dependent == f.dependent) (Decides-eqb e.governor f.governor) (Decides-eqb e.dependent f.dependent)) (bytes_eq-Decides e.label f.label) in
    (λ h. equal e f (parts.0 h).0.0 (parts.0 h).0.1 (parts.0 h).1, λ q. parts.1 ((ap (λ (x : Edge). x.governor) q, ap (λ (x : Edge). x.dependent) q), ap (λ (x : Edge). x.label) q))
  where
    equal : (e f : Edge) → e.governor ≡ f.governor → e.dependent ≡ f.dependent → e.label ≡ f.label → e ≡ f
    equal e f a b c = ap (λ (n : ℕ). record e { governor = n }) a ∙ ap (λ (n : ℕ). record e { governor = f.governor; dependent = n }) b ∙ ap (λ (l : List ℕ). record e { governor = f.governor; dependent = f.dependent; label = l }) c

another : (e f : Edge) → not (same_edge e f) ≡ true → e ≡ f → ⊥
another e f other same = absurd (cc ((same_edge-Decides e f).1 same, other))

split_and : (a b : Bool) → (a && b) ≡ true → (a ≡ true) × (b ≡ true)
split_and true b e = (refl, e)
split_and false b e = absurd (cc)

-- distinct edges differ in pairs
pub AllPairs-distinct : (edges : List Edge) → AreDistinct edges → AllPairs (λ e f. e ≡ f → ⊥) edges
AllPairs-distinct [] h = λ i j d less within. absurd (omega arith)
AllPairs-distinct (e ∷ es) h =
    let two = split_and (list_all (λ f. not (same_edge e f)) es) (all_differ es) h in
    AllPairs-cons (λ e f. e ≡ f → ⊥) e es (λ k d within. another e _ (AllPass-from_list_all (λ f. not (same_edge e f)) es two.0 k d within)) (AllPairs-distinct es two.1)
