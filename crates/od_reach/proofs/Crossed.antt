-- Edges one by one, and the edges of one token.
use Rattle.std.proofs.Common.{◌≡◌, ℕ, zero, suc, ◌+◌, ◌<◌, ◌≤◌, Bool, true, false, List, [], ◌∷◌, ◌++◌, length, take, refl, sym, ◌∙◌, ap, subst, arith, get_or, set, append_assoc, add-one, length-append, get_or-set_same, get_or-set_other, inl, inr}
use Rattle.std.proofs.lemmas.Bool.{cases_eq, eq-eqb, ne_eqb}
use Rattle.std.proofs.lemmas.List.{append-nil}
use Rattle.std.proofs.lemmas.Grind.{flat_map-append}
use Rattle.std.proofs.lemmas.List.Elements.{All-append}
use Rattle.std.specs.Prelude.{IsSomeAnd, ◌&&◌, ◌==◌, Option, Some, None, slice_get, slice_index_or, if◌then◌else◌, replicate}
use Rattle.std.specs.List.{flat_map}
use Rattle.od_document.specs.declared.token.Edge.{Edge}
use Rattle.od_reach.specs.Moves.{Input, allows, spot, behind, if_so, over_edge, over_edges}
use Rattle.od_reach.specs.Links.{number_at, numbers_at, over_one, over_all, AllBelow}
use Rattle.od_reach.specs.declared.moves.Spot.{Spot}

module _ (from to : Edge → ℕ) (g : Input) (row : Option ℕ) (pc at : ℕ) where
  one : (k : ℕ) (edge : Option Edge) → slice_get g.edges k ≡ edge
      → over_all to g row pc (number_at from at k edge) ≡ over_edge from to (allows g.rows row k) pc at edge
  one k None e = refl
  one k (Some edge) e = by (from edge == at) refl
    where
      by : (b : Bool) → (from edge == at) ≡ b → over_all to g row pc (if b then k ∷ [] else []) ≡ behind to edge pc (allows g.rows row k && b)
      by true eq =
          append-nil (over_one to (allows g.rows row k) pc (slice_get g.edges k)) ∙ ap (over_one to (allows g.rows row k) pc) e ∙ ap (λ b. behind to edge pc b) (sym (and_true (allows g.rows row k)))
        where
          and_true : (b : Bool) → (b && true) ≡ b
          and_true true = refl
          and_true false = refl
      by false eq = sym (ap (λ b. behind to edge pc b) (and_false (allows g.rows row k)))
        where
          and_false : (b : Bool) → (b && false) ≡ false
          and_false true = refl
          and_false false = refl

  -- over the edges at a token is over all edges, the others leading nowhere
  pub grouped : (n : ℕ) → over_all to g row pc (numbers_at from g.edges at n) ≡ over_edges from to g row pc at n
  unfolding numbers_at over_edges
  grouped zero = refl
  grouped (suc n) =
      flat_map-append (λ k. over_one to (allows g.rows row k) pc (slice_get g.edges k)) (numbers_at from g.edges at n) (number_at from at n (slice_get g.edges n))
      ∙ ap (λ z. z ++ over_all to g row pc (number_at from at n (slice_get g.edges n))) (grouped n)
      ∙ ap (λ z. over_edges from to g row pc at n ++ z) (one n (slice_get g.edges n) refl)

-- there are at most as many as edges
pub numbers_few : (from : Edge → ℕ) (edges : List Edge) (at n : ℕ) → length (numbers_at from edges at n) ≤ n
unfolding numbers_at
numbers_few from edges at zero = omega arith
numbers_few from edges at (suc n) = omega (arith, numbers_few from edges at n, length-append (numbers_at from edges at n) (number_at from at n (slice_get edges n)), at_most (slice_get edges n))
  where
    by : (b : Bool) → length (if b then n ∷ [] else []) ≤ 1
    by true = omega arith
    by false = omega arith

    at_most : (edge : Option Edge) → length (number_at from at n edge) ≤ 1
    at_most None = omega arith
    at_most (Some edge) = by (from edge == at)

-- each is below the number of edges that were looked at
numbers_under : (from : Edge → ℕ) (edges : List Edge) (at n m : ℕ) → n ≤ m → AllBelow m (numbers_at from edges at n)
unfolding numbers_at
numbers_under from edges at zero m le = none
  where
    none : AllBelow m []
    none k d h = absurd (omega arith)
numbers_under from edges at (suc n) m le =
    All-append (λ k. k < m) (numbers_at from edges at n) (number_at from at n (slice_get edges n)) (numbers_under from edges at n m (omega arith)) (single (slice_get edges n))
  where
    none : AllBelow m []
    none k d h = absurd (omega arith)

    this : AllBelow m (n ∷ [])
    this zero d h = omega arith
    this (suc k) d h = absurd (omega arith)

    by : (b : Bool) → AllBelow m (if b then n ∷ [] else [])
    by true = this
    by false = none

    single : (edge : Option Edge) → AllBelow m (number_at from at n edge)
    single None = none
    single (Some edge) = by (from edge == at)

pub numbers_below : (from : Edge → ℕ) (edges : List Edge) (at n : ℕ) → n ≡ length edges → AllBelow n (numbers_at from edges at n)
numbers_below from edges at n e = numbers_under from edges at n n (omega arith)

take_push : (ks : List ℕ) (i k : ℕ) → i < length ks → k ≡ get_or ks i k → take (suc i) ks ≡ take i ks ++ k ∷ []
take_push [] i k h e = absurd (omega arith)
take_push (x ∷ ks) zero k h e = ap (λ z. z ∷ []) (sym e)
take_push (x ∷ ks) (suc i) k h e = ap (λ z. x ∷ z) (take_push ks i k (omega arith) e)

-- behind an edge whose end is known
led : (to : Edge → ℕ) (so : Bool) (pc end : ℕ) (o : Option Edge) → IsSomeAnd o (λ e. to e ≡ end) → over_one to so pc o ≡ if_so so (spot (pc + 1) end)
led to so pc end None none = absurd none
led to so pc end (Some edge) e = ap (λ z. if_so so (spot (pc + 1) z)) e

-- over one edge more
pub one_more : (to : Edge → ℕ) (g : Input) (row : Option ℕ) (pc : ℕ) (ks : List ℕ) (i k end : ℕ) (so : Bool) (old todo new : List Spot)
    → i < length ks → k ≡ get_or ks i k → IsSomeAnd (slice_get g.edges k) (λ e. to e ≡ end) → so ≡ allows g.rows row k
    → todo ≡ old ++ over_all to g row pc (take i ks) → new ≡ todo ++ if_so so (spot (pc + 1) end)
    → new ≡ old ++ over_all to g row pc (take (i + 1) ks)
one_more to g row pc ks i k end so old todo new h e there is_so was now =
    let f : ℕ → List Spot = λ k. over_one to (allows g.rows row k) pc (slice_get g.edges k) in
    let one : flat_map f (k ∷ []) ≡ if_so so (spot (pc + 1) end) =
    append-nil (f k) ∙ led to (allows g.rows row k) pc end (slice_get g.edges k) there ∙ ap (λ z. if_so z (spot (pc + 1) end)) (sym is_so) in
    let more : flat_map f (take (i + 1) ks) ≡ flat_map f (take i ks) ++ if_so so (spot (pc + 1) end) =
    rw add-one (ap (flat_map f) (take_push ks i k h e) ∙ flat_map-append f (take i ks) (k ∷ []) ∙ ap (λ z. flat_map f (take i ks) ++ z) one) in
    now ∙ ap (λ z. z ++ if_so so (spot (pc + 1) end)) was ∙ append_assoc old (flat_map f (take i ks)) (if_so so (spot (pc + 1) end)) ∙ ap (λ z. old ++ z) (sym more)

module _ (from : Edge → ℕ) (k at t : ℕ) where
  -- the number of an edge whose end is known, at that token and at another one
  number_here : (o : Option Edge) → IsSomeAnd o (λ e. from e ≡ at) → at ≡ t → number_at from t k o ≡ k ∷ []
  number_here None none e = absurd none
  number_here (Some edge) is_at e = ap (λ b. if b then k ∷ [] else []) (eq-eqb (from edge) t (is_at ∙ e))

  number_elsewhere : (o : Option Edge) → IsSomeAnd o (λ e. from e ≡ at) → (at ≡ t → ⊥) → number_at from t k o ≡ []
  number_elsewhere None none ne = absurd none
  number_elsewhere (Some edge) is_at ne = ap (λ b. if b then k ∷ [] else []) (ne_eqb (from edge) t (λ e. ne (sym is_at ∙ e)))

-- one edge more at its token
pub noted : (from : Edge → ℕ) (edges : List Edge) (n k at : ℕ) (xs ys : List (List ℕ))
    → IsSomeAnd (slice_get edges k) (λ e. from e ≡ at) → at < length xs → ys ≡ set xs at (slice_index_or xs at [] ++ k ∷ [])
    → ((t : ℕ) → t < n → slice_index_or xs t [] ≡ numbers_at from edges t k) → (t : ℕ) → t < n → slice_index_or ys t [] ≡ numbers_at from edges t (k + 1)
unfolding numbers_at
noted from edges n k at xs ys is_at h is was t lt =
    rw add-one (elim (cases_eq t at) [
      | inl e ↦
          ap (λ z. get_or z t []) is ∙ ap (λ z. get_or (set xs at (slice_index_or xs at [] ++ k ∷ [])) z []) e ∙ get_or-set_same xs at (slice_index_or xs at [] ++ k ∷ []) [] h
          ∙ ap (λ z. slice_index_or xs z [] ++ k ∷ []) (sym e) ∙ ap (λ z. z ++ k ∷ []) (was t lt)
          ∙ ap (λ z. numbers_at from edges t k ++ z) (sym (number_here from k at t (slice_get edges k) is_at (sym e)))
      | inr ne ↦
          ap (λ z. get_or z t []) is ∙ get_or-set_other xs at t (slice_index_or xs at [] ++ k ∷ []) [] ne
          ∙ was t lt ∙ sym (append-nil (numbers_at from edges t k))
          ∙ ap (λ z. numbers_at from edges t k ++ z) (sym (number_elsewhere from k at t (slice_get edges k) is_at (λ e. ne (sym e))))
    ])

blank_at : (none : List ℕ) (n t : ℕ) → none ≡ [] → get_or (replicate n none) t [] ≡ []
blank_at none zero t e = refl
blank_at none (suc n) zero e = e
blank_at none (suc n) (suc t) e = blank_at none n t e

-- before the first edge there is none at any token
pub none_yet : (from : Edge → ℕ) (edges : List Edge) (n t : ℕ) (xs : List (List ℕ)) → xs ≡ replicate n [] → slice_index_or xs t [] ≡ numbers_at from edges t 0
unfolding numbers_at
none_yet from edges n t xs e = ap (λ z. get_or z t []) e ∙ blank_at [] n t refl

pub blank_long : (n : ℕ) (xs : List (List ℕ)) → xs ≡ replicate n [] → length xs ≡ n
blank_long n xs e = ap length e ∙ go [] n
  where
    go : (none : List ℕ) (n : ℕ) → length (replicate n none) ≡ n
    go none zero = refl
    go none (suc n) = ap suc (go none n)
