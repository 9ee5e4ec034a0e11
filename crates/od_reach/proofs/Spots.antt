-- What the rows say, and which spots follow a spot.
use Rattle.std.proofs.Common.{◌≡◌, ℕ, zero, suc, ◌+◌, ◌-◌, ◌<◌, ◌≤◌, ◌⊎◌, Bool, true, false, List, [], ◌∷◌, ◌++◌, length, refl, sym, ◌∙◌, ap, subst, inl, inr, arith, length-append, get_or}
use Rattle.std.proofs.lemmas.Bool.{cases_lt, and_parts, and_from, eqb-true, eq-eqb, lt-ltb, le-ltb, cases_Bool}
use Rattle.std.proofs.lemmas.List.{get_or_past}
use Rattle.std.proofs.lemmas.List.FromFn.{get_or-map-range_with_len, length-map-range_with_len}
use Rattle.std.specs.Prelude.{◌&&◌, ◌==◌, nat_lt, map, Option, Some, None, slice_get, slice_index_or}
use Rattle.std.specs.List.{range_with_len}
use Rattle.od_asked.specs.Asked.{asked_label, at_tokens}
use Rattle.od_asked.specs.Tables.{RowsFit}
use Rattle.od_asked.specs.Holds.{holds}
use Rattle.od_asked.specs.Texts.{fits}
use Rattle.od_matching.specs.Matching.Reach.{fits_any, holds_there}
use Rattle.od_document.specs.declared.token.Edge.{Edge}
use Rattle.od_document.specs.declared.sentence.Sentence.{Sentence}
use Rattle.od_pattern.specs.declared.pattern.Constraint.{Constraint}
use Rattle.od_pattern.specs.declared.pattern.Value.{Value}
use Rattle.od_reach.specs.Moves.{Input, truth_in, holds_in, allows, spot, behind, over_edge, over_edges, if_so, In}
use Rattle.od_reach.specs.Code.{row_for}
use Rattle.od_reach.specs.declared.moves.Spot.{Spot}

-- the truth at an edge
at_map : {A : Type 0} (f : A → Bool) (xs : List A) (k : ℕ) (x : A) → slice_get xs k ≡ Some x → slice_index_or (map f xs) k false ≡ f x
at_map {A} f [] k x e = absurd (let q : ◌≡◌ {A = Option A} None (Some x) = e in cc)
at_map {A} f (y ∷ xs) zero x e = let q : ◌≡◌ {A = Option A} (Some y) (Some x) = e in let r : y ≡ x = cc in ap f r
at_map f (y ∷ xs) (suc k) x e = at_map f xs k x e

pub label_row : (rows : List (List Bool)) (s : Sentence) (n : ℕ) (value : Option Value) (k : ℕ) (edge : Edge) → RowsFit rows s n (asked_label value) → slice_get s.edges k ≡ Some edge
    → allows rows (row_for n value) k ≡ fits_any value edge.label
label_row rows s n None k edge fit e = refl
label_row rows s n (Some value) k edge fit e = ap (λ (z : Option (List Bool)). truth_in z k) fit.0 ∙ at_map (λ edge. fits value edge.label) s.edges k edge e

pub token_row : (rows : List (List Bool)) (s : Sentence) (n : ℕ) (c : Constraint) (k : ℕ) → RowsFit rows s n (at_tokens c ∷ []) → holds_in rows n k ≡ holds_there s c k
token_row rows s n c k fit =
    ap (λ (z : Option (List Bool)). truth_in z k) fit.0 ∙ elim (cases_lt k (length s.tokens)) [
      | inl lt ↦
          get_or-map-range_with_len (holds s c) 0 (length s.tokens) k k false lt (omega arith)
          ∙ sym (ap (λ (b : Bool). b && holds s c k) (lt-ltb k (length s.tokens) lt))
      | inr ge ↦
          let l : length (map (holds s c) (range_with_len 0 (length s.tokens))) ≡ length s.tokens = length-map-range_with_len (holds s c) 0 (length s.tokens) in
          get_or_past (map (holds s c) (range_with_len 0 (length s.tokens))) k false (omega arith)
          ∙ sym (ap (λ (b : Bool). b && holds s c k) (le-ltb k (length s.tokens) ge))
    ]

pub in_left : (x : Spot) (xs ys : List Spot) → In x xs → In x (xs ++ ys)
in_left x [] ys h = absurd h
in_left x (y ∷ xs) ys (inl e) = inl e
in_left x (y ∷ xs) ys (inr h) = inr (in_left x xs ys h)

pub in_right : (x : Spot) (xs ys : List Spot) → In x ys → In x (xs ++ ys)
in_right x [] ys h = h
in_right x (y ∷ xs) ys h = inr (in_right x xs ys h)

pub in_cases : (x : Spot) (xs ys : List Spot) → In x (xs ++ ys) → In x xs ⊎ In x ys
in_cases x [] ys h = inr h
in_cases x (y ∷ xs) ys (inl e) = inl (inl e)
in_cases x (y ∷ xs) ys (inr h) = elim (in_cases x xs ys h) [ inl l ↦ inl (inr l) | inr r ↦ inr r ]

pub in_so : (b : Bool) (x : Spot) → b ≡ true → In x (if_so b x)
in_so true x e = inl refl
in_so false x e = absurd (cc)

pub so_in : (b : Bool) (x y : Spot) → In y (if_so b x) → (b ≡ true) × (x ≡ y)
so_in true x y (inl e) = (refl, e)
so_in true x y (inr h) = absurd h
so_in false x y h = absurd h

module _ (from to : Edge → ℕ) (g : Input) (row : Option ℕ) (pc at : ℕ) where
  here : (edge : Edge) (b : Bool) → b ≡ true → In (spot (pc + 1) (to edge)) (behind to edge pc b)
  here edge true e = inl refl
  here edge false e = absurd (cc)

  here_edge : (o : Option Edge) (edge : Edge) (b : Bool) → o ≡ Some edge → b ≡ true → from edge ≡ at → In (spot (pc + 1) (to edge)) (over_edge from to b pc at o)
  here_edge o edge b e t f = subst (λ (z : Option Edge). In (spot (pc + 1) (to edge)) (over_edge from to b pc at z)) (sym e) (here edge (b && (from edge == at)) (and_from b (from edge == at) t (eq-eqb (from edge) at f)))

  pub in_edges : (n k : ℕ) (edge : Edge) → k < n → slice_get g.edges k ≡ Some edge → allows g.rows row k ≡ true → from edge ≡ at → In (spot (pc + 1) (to edge)) (over_edges from to g row pc at n)
  unfolding over_edges
  in_edges zero k edge h e t f = absurd (omega arith)
  in_edges (suc n) k edge h e t f =
      elim (cases_lt k n) [
        | inl lt ↦ in_left (spot (pc + 1) (to edge)) (over_edges from to g row pc at n) (over_edge from to (allows g.rows row n) pc at (slice_get g.edges n)) (in_edges n k edge lt e t f)
        | inr ge ↦
            let same : k ≡ n = omega arith in
            in_right (spot (pc + 1) (to edge)) (over_edges from to g row pc at n) (over_edge from to (allows g.rows row n) pc at (slice_get g.edges n))
            (here_edge (slice_get g.edges n) edge (allows g.rows row n) (subst (λ (z : ℕ). slice_get g.edges z ≡ Some edge) same e) (subst (λ (z : ℕ). allows g.rows row z ≡ true) same t) f)
      ]

  -- the edge over which a spot is come to
  pub record Came (x : Spot) : Type 0 where
    pub place : ℕ
    pub edge : Edge
    pub is_there : slice_get g.edges place ≡ Some edge
    pub allowed : allows g.rows row place ≡ true
    pub begins : from edge ≡ at
    pub spot_is : spot (pc + 1) (to edge) ≡ x

  behind_came : (k : ℕ) (edge : Edge) (b : Bool) (x : Spot) → slice_get g.edges k ≡ Some edge → (b ≡ true → (allows g.rows row k ≡ true) × (from edge ≡ at)) → In x (behind to edge pc b) → Came x
  behind_came k edge true x e f (inl s) = let r = f refl in record { place = k; edge = edge; is_there = e; allowed = r.0; begins = r.1; spot_is = s }
  behind_came k edge true x e f (inr h) = absurd h
  behind_came k edge false x e f h = absurd h

  edge_came : (k : ℕ) (o : Option Edge) (x : Spot) → slice_get g.edges k ≡ o → In x (over_edge from to (allows g.rows row k) pc at o) → Came x
  edge_came k None x e h = absurd h
  edge_came k (Some edge) x e h =
      behind_came k edge (allows g.rows row k && (from edge == at)) x e
      (λ t. let r = and_parts (allows g.rows row k) (from edge == at) t in (r.0, eqb-true (from edge) at r.1)) h

  pub came : (n : ℕ) (x : Spot) → In x (over_edges from to g row pc at n) → Came x
  unfolding over_edges
  came zero x h = absurd h
  came (suc n) x h =
      elim (in_cases x (over_edges from to g row pc at n) (over_edge from to (allows g.rows row n) pc at (slice_get g.edges n)) h) [
        | inl l ↦ came n x l
        | inr r ↦ edge_came n (slice_get g.edges n) x refl r
      ]
