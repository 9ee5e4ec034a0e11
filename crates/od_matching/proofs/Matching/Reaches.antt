-- The set that is computed for a path is the set of the tokens to which it leads.
use Rattle.std.proofs.Common.{◌≡◌, ℕ, zero, suc, ◌+◌, ◌-◌, ◌<◌, ◌≤◌, true, false, List, [], ◌∷◌, refl, sym, subst, inl, inr, arith}
use Rattle.std.proofs.lemmas.Bool.{or_cases, and_parts, and_from, eqb-true, eq-eqb, leb-true, le-leb}
use Rattle.std.proofs.lemmas.Option.{get_or_from_slice_get, slice_get_within}
use Rattle.std.specs.Prelude.{◌↔◌, ◌&&◌, ◌==◌, nat_le, Option, Some, None, slice_get}
use Rattle.od_matching.specs.Matching.Reach.{nodes, Link, Set, Crosses, Turned, Repeated, fits_any, governor, dependent, holds_there, leads, leads_on, leads_by, cross, turned, spread, repeated, reached, reached_on, reached_by}
use Rattle.od_matching.proofs.Matching.Tests.{or_left, or_right, any_there}
use Rattle.od_matching.proofs.Matching.Spread.{Under, Sound, Complete, Keeps, under_after, turned_add, keeps_turned, sound-turned, sound-spread, spread_keeps, complete-turned, complete-spread, spread_closed, closed_turns, under_spreads}
use Rattle.od_document.specs.declared.token.Edge.{Edge}
use Rattle.od_document.specs.declared.sentence.Sentence.{Sentence}
use Rattle.od_pattern.specs.declared.pattern.Value.{Value}
use Rattle.od_pattern.specs.declared.path.Path.{Path, Along, Against, Filter, Seq', Alt', Repeat', Row_of-Path, end_of-Path, more_of-Path}

module _ (from to : Edge → ℕ) (value : Option Value) where
  -- what edges reach is behind an edge
  pub sound-cross : (edges : List Edge) → Sound (cross from to value edges) (Crosses from to value edges)
  sound-cross [] marked b e = absurd (let q : false ≡ true = e in cc)
  sound-cross (edge ∷ edges) marked b e =
      elim (or_cases (fits_any value edge.label && marked (from edge) && (to edge == b)) (cross from to value edges marked b) e) [
        | inl h ↦
            let p = and_parts (fits_any value edge.label && marked (from edge)) (to edge == b) h in
            let q = and_parts (fits_any value edge.label) (marked (from edge)) p.0 in
            (from edge, q.1, record { place = 0; edge = edge; is_there = refl; label = q.0; begins = refl; ends = eqb-true (to edge) b p.1 })
        | inr h ↦
            let r = sound-cross edges marked b h in
            let c = r.2 in
            (r.0, r.1, record { place = suc c.place; edge = c.edge; is_there = c.is_there; label = c.label; begins = c.begins; ends = c.ends })
      ]

  -- what is behind an edge is reached
  pub complete-cross : (n : ℕ) (edges : List Edge) → Complete n (cross from to value edges) (Crosses from to value edges)
  complete-cross n edges marked a b under e c =
      any_there (λ edge. fits_any value edge.label && marked (from edge) && (to edge == b)) edges c.place c.edge c.is_there
      (and_from _ _ (and_from _ _ c.label (subst (λ (z : ℕ). marked z ≡ true) (sym c.begins) e)) (eq-eqb (to c.edge) b c.ends))

-- what a repeat reaches comes over a number of links in its range
sound-repeated : (n : ℕ) (f : Set → Set) (A : Link) → Sound f A → (least : ℕ) (most : Option ℕ) → Sound (repeated n f least most) (Repeated A least most)
sound-repeated n f A sound least None marked b e =
    let r = sound-spread f A sound n (turned f least marked) b e in
    let q = sound-turned f A sound least marked r.0 r.1 in
    (q.0, q.1, (least + r.2, omega arith, tt, turned_add A least r.2 (least + r.2) q.0 r.0 b refl q.2 r.4))
sound-repeated n f A sound least (Some most) marked b e =
    let h = and_parts (nat_le least most) (spread f (most - least) (turned f least marked) b) e in
    let r = sound-spread f A sound (most - least) (turned f least marked) b h.1 in
    let q = sound-turned f A sound least marked r.0 r.1 in
    let le : r.2 ≤ most - least = r.3 in
    let in_range : least ≤ most = leb-true least most h.0 in
    (q.0, q.1, (least + r.2, omega arith, omega arith, turned_add A least r.2 (least + r.2) q.0 r.0 b refl q.2 r.4))

-- n turns are some turns and then the rest
pub turned_split : (A : Link) (m k n : ℕ) (a b : ℕ) → n ≡ m + k → Turned A n a b → (c : ℕ) × Turned A m a c × Turned A k c b
turned_split A zero k n a b e t = let same : n ≡ k = omega arith in (a, refl, subst (λ (z : ℕ). Turned A z a b) same t)
turned_split A (suc m) k zero a b e t = absurd (omega arith)
turned_split A (suc m) k (suc n) a b e t =
    let r = turned_split A m k n t.0 b (omega arith) t.2 in (r.0, (t.0, t.1, r.1), r.2)

module _ (n : ℕ) (f : Set → Set) (A : Link) (sound : Sound f A) (complete : Complete n f A) (keeps : Keeps n A) where
  -- what comes over a number of links in the range is reached by the repeat
  complete-repeated : (least : ℕ) (most : Option ℕ) → Complete n (repeated n f least most) (Repeated A least most)
  complete-repeated least None marked a b under e r =
      let le : least ≤ r.0 = r.1 in
      let q = turned_split A least (r.0 - least) r.0 a b (omega arith) r.3 in
      let begin : turned f least marked q.0 ≡ true = complete-turned n f A sound complete keeps least marked a q.0 under e q.1 in
      let inside : Under n (turned f least marked) = under_after n (turned f least) (Turned A least) (sound-turned f A sound least) (keeps_turned n A keeps least) marked under in
      closed_turns n f A sound keeps complete (spread f n (turned f least marked)) (under_spreads n f A sound keeps n (turned f least marked) inside)
      (spread_closed n f A sound keeps n (turned f least marked) inside (omega arith)) (r.0 - least) q.0 b (spread_keeps f n (turned f least marked) q.0 begin) q.2
  complete-repeated least (Some most) marked a b under e r =
      let le : least ≤ r.0 = r.1 in
      let up : r.0 ≤ most = r.2 in
      let q = turned_split A least (r.0 - least) r.0 a b (omega arith) r.3 in
      let begin : turned f least marked q.0 ≡ true = complete-turned n f A sound complete keeps least marked a q.0 under e q.1 in
      let inside : Under n (turned f least marked) = under_after n (turned f least) (Turned A least) (sound-turned f A sound least) (keeps_turned n A keeps least) marked under in
      and_from _ _ (le-leb least most (omega arith))
      (complete-spread n f A sound complete keeps (most - least) (turned f least marked) q.0 b (r.0 - least) inside begin (omega arith) q.2)

module _ (s : Sentence) where
  mutual
    unfolding leads leads_on leads_by reached reached_on reached_by

    -- what is reached is led to
    pub sound : (p : Path) → Sound (reached s p) (leads s p)
    sound (Along value) marked b e = sound-cross governor dependent value s.edges marked b e
    sound (Against value) marked b e = sound-cross dependent governor value s.edges marked b e
    sound (Filter c) marked b e = let h = and_parts (marked b) (holds_there s c b) e in (b, h.0, (h.1, refl))
    sound (Seq' v row) marked b e = sound_on row marked b e
    sound (Alt' v row) marked b e = sound_by row marked b e
    sound (Repeat' v (more_of-Path p end_of-Path) least most) marked b e = sound-repeated (nodes s) (reached s p) (leads s p) (sound p) least most marked b e

    sound_on : {m : _} (row : Row_of-Path m) → Sound (reached_on s row) (leads_on s row)
    sound_on end_of-Path marked b e = (b, e, refl)
    sound_on (more_of-Path p rest) marked b e =
        let r = sound_on rest (reached s p marked) b e in
        let q = sound p marked r.0 r.1 in
        (q.0, q.1, (r.0, q.2, r.2))

    sound_by : {m : _} (row : Row_of-Path m) → Sound (reached_by s row) (leads_by s row)
    sound_by end_of-Path marked b e = absurd (let q : false ≡ true = e in cc)
    sound_by (more_of-Path p rest) marked b e =
        elim (or_cases (reached s p marked b) (reached_by s rest marked b) e) [
          | inl h ↦ let r = sound p marked b h in (r.0, r.1, inl r.2)
          | inr h ↦ let r = sound_by rest marked b h in (r.0, r.1, inr r.2)
        ]

-- an edge of the sentence lies between two of its tokens
edge_ends : (s : Sentence) (i : ℕ) (edge : Edge) → slice_get s.edges i ≡ Some edge → (edge.governor < nodes s) × (edge.dependent < nodes s)
edge_ends s i edge e =
    let lies : (edge' : Edge) → Type 0 = λ edge'. (edge'.governor < nodes s) × (edge'.dependent < nodes s) in
    subst lies (get_or_from_slice_get s.edges i edge edge e) (s.ends i edge (slice_get_within s.edges i edge e))

module _ (s : Sentence) where
  mutual
    unfolding leads leads_on leads_by

    -- a path leads from a token of the sentence to a token of it
    pub keeps : (p : Path) → Keeps (nodes s) (leads s p)
    keeps (Along value) a b h t = let r = edge_ends s t.place t.edge t.is_there in subst (λ (z : ℕ). z < nodes s) t.ends r.1
    keeps (Against value) a b h t = let r = edge_ends s t.place t.edge t.is_there in subst (λ (z : ℕ). z < nodes s) t.ends r.0
    keeps (Filter c) a b h t = let e : b ≡ a = t.1 in omega arith
    keeps (Seq' v row) a b h t = keeps_on row a b h t
    keeps (Alt' v row) a b h t = keeps_by row a b h t
    keeps (Repeat' v (more_of-Path p end_of-Path) least most) a b h t = keeps_turned (nodes s) (leads s p) (keeps p) t.0 a b h t.3

    keeps_on : {m : _} (row : Row_of-Path m) → Keeps (nodes s) (leads_on s row)
    keeps_on end_of-Path a b h t = let e : b ≡ a = t in omega arith
    keeps_on (more_of-Path p rest) a b h t = keeps_on rest t.0 b (keeps p a t.0 h t.1) t.2

    keeps_by : {m : _} (row : Row_of-Path m) → Keeps (nodes s) (leads_by s row)
    keeps_by end_of-Path a b h t = absurd t
    keeps_by (more_of-Path p rest) a b h (inl t) = keeps p a b h t
    keeps_by (more_of-Path p rest) a b h (inr t) = keeps_by rest a b h t

  mutual
    unfolding leads leads_on leads_by reached reached_on reached_by

    -- what is led to is reached
    pub complete : (p : Path) → Complete (nodes s) (reached s p) (leads s p)
    complete (Along value) marked a b under e t = complete-cross governor dependent value (nodes s) s.edges marked a b under e t
    complete (Against value) marked a b under e t = complete-cross dependent governor value (nodes s) s.edges marked a b under e t
    complete (Filter c) marked a b under e t =
        let same : b ≡ a = t.1 in
        and_from _ _ (subst (λ (z : ℕ). marked z ≡ true) (sym same) e) (subst (λ (z : ℕ). holds_there s c z ≡ true) (sym same) t.0)
    complete (Seq' v row) marked a b under e t = complete_on row marked a b under e t
    complete (Alt' v row) marked a b under e t = complete_by row marked a b under e t
    complete (Repeat' v (more_of-Path p end_of-Path) least most) marked a b under e t =
        complete-repeated (nodes s) (reached s p) (leads s p) (sound s p) (complete p) (keeps p) least most marked a b under e t

    complete_on : {m : _} (row : Row_of-Path m) → Complete (nodes s) (reached_on s row) (leads_on s row)
    complete_on end_of-Path marked a b under e t = let same : b ≡ a = t in subst (λ (z : ℕ). marked z ≡ true) (sym same) e
    complete_on (more_of-Path p rest) marked a b under e t =
        complete_on rest (reached s p marked) t.0 b (under_after (nodes s) (reached s p) (leads s p) (sound s p) (keeps p) marked under) (complete p marked a t.0 under e t.1) t.2

    complete_by : {m : _} (row : Row_of-Path m) → Complete (nodes s) (reached_by s row) (leads_by s row)
    complete_by end_of-Path marked a b under e t = absurd t
    complete_by (more_of-Path p rest) marked a b under e (inl t) = or_left (reached s p marked b) (reached_by s rest marked b) (complete p marked a b under e t)
    complete_by (more_of-Path p rest) marked a b under e (inr t) = or_right (reached s p marked b) (reached_by s rest marked b) (complete_by rest marked a b under e t)

-- from the tokens of a set a path leads to exactly those that are computed
pub reached_from : (s : Sentence) (p : Path) (marked : Set) (b : ℕ) → Under (nodes s) marked → (reached s p marked b ≡ true) ↔ ((a : ℕ) × (marked a ≡ true) × leads s p a b)
reached_from s p marked b under = (sound s p marked b, λ r. complete s p marked r.0 b under r.1 r.2)
