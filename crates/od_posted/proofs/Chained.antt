-- The edges of a token, one after another.
use Rattle.std.proofs.Common.{◌≡◌, ℕ, zero, suc, ◌+◌, ◌<◌, ◌≤◌, Bool, true, false, cond, List, [], ◌∷◌, length, map, drop, get_or, set, replicate, refl, sym, ◌∙◌, ap, subst, arith, inl, inr}
use Rattle.std.proofs.lemmas.Bool.{cases_eq, eq-eqb, ne_eqb, eqb-true}
use Rattle.std.proofs.lemmas.List.{drop-drop, get_or-replicate, get_or-set_same, get_or-set_other, length-replicate, length-set}
use Rattle.std.proofs.lemmas.Option.{slice_get_within}
use Rattle.std.specs.Prelude.{◌==◌, ◌⊎◌, IsSomeAnd, Option, Some, None, slice_get}
use Rattle.od_document.specs.declared.sentence.Sentence.{Sentence}
use Rattle.od_document.specs.declared.token.Edge.{Edge}
use Rattle.od_posted.specs.Chains.{AreChained, edges_at, end_of, first_at, first_from, label_of, labels_at}
use Rattle.od_posted.specs.declared.chains.End.{End}

-- what is there
pub some-and : {X : Type 0} (o : Option X) (P : X → Type 0) → IsSomeAnd o P → (x : X) × (o ≡ Some x) × P x
some-and None P h = absurd h
some-and (Some x) P h = (x, refl, h)

-- ## The rest of a list

pub drop-at : {X : Type 0} (xs : List X) (n : ℕ) (x : X) → slice_get xs n ≡ Some x → drop n xs ≡ x ∷ drop (n + 1) xs
drop-at [] n x at = absurd (let q : ◌≡◌ {A = Option _} None (Some x) = at in cc)
drop-at (y ∷ xs) zero x at = let q : y ≡ x = (let p : Some y ≡ Some x = at in cc) in ap (λ z. z ∷ xs) q
drop-at (y ∷ xs) (suc n) x at =
    let e : suc (n + 1) ≡ suc n + 1 = omega arith in
    drop-at xs n x at ∙ ap (λ k. x ∷ drop k (y ∷ xs)) e

pub drop-none : {X : Type 0} (xs : List X) (n : ℕ) → length xs ≤ n → drop n xs ≡ []
drop-none [] zero h = refl
drop-none [] (suc n) h = refl
drop-none (x ∷ xs) zero h = absurd (omega (arith, h))
drop-none (x ∷ xs) (suc n) h = drop-none xs n (omega (arith, h))

get-behind : {X : Type 0} (xs : List X) (n k : ℕ) → slice_get (drop n xs) k ≡ slice_get xs (n + k)
get-behind xs zero k = let e : k ≡ 0 + k = omega arith in ap (slice_get xs) e
get-behind [] (suc n) k = refl
get-behind (x ∷ xs) (suc n) k =
    let e : suc (n + k) ≡ suc n + k = omega arith in
    get-behind xs n k ∙ ap (slice_get (x ∷ xs)) e

-- ## The first edge of a token

-- the first of the edges from a place on: between them none is of the token
pub record IsNext (end : End) (token from place : ℕ) (es : List Edge) : Type 0 where
  pub behind : from ≤ place
  pub same : edges_at end token (drop from es) ≡ edges_at end token (drop place es)
  pub has : (edge : Edge) → slice_get es place ≡ Some edge → end_of end edge ≡ token

-- so many edges behind n others
record IsFar (end : End) (token n : ℕ) (es : List Edge) : Type 0 where
  far : ℕ
  place : first_at end token n es ≡ n + far
  same : edges_at end token es ≡ edges_at end token (drop far es)
  has : (edge : Edge) → slice_get es far ≡ Some edge → end_of end edge ≡ token

how-far : (end : End) (token n : ℕ) (es : List Edge) → IsFar end token n es
how-far end token n [] = record {
  far = 0;
  place = omega arith;
  same = refl;
  has = λ edge at. absurd (let q : ◌≡◌ {A = Option Edge} None (Some edge) = at in cc);
}
how-far end token n (x ∷ es) = by (end_of end x == token) refl (how-far end token (n + 1) es)
  where
    by : (b : Bool) → (end_of end x == token) ≡ b → IsFar end token (n + 1) es → IsFar end token n (x ∷ es)
    by true e next = record {
      far = 0;
      place = let z : n ≡ n + 0 = omega arith in ap (λ b. cond b n (first_at end token (n + 1) es)) e ∙ z;
      same = refl;
      has = λ edge at. let q : x ≡ edge = (let p : Some x ≡ Some edge = at in cc) in ap (end_of end) (sym q) ∙ eqb-true (end_of end x) token e;
    }
    by false e next = record {
      far = suc next.far;
      place =
          let z : n + 1 + next.far ≡ n + suc next.far = omega arith in
          ap (λ b. cond b n (first_at end token (n + 1) es)) e ∙ next.place ∙ z;
      same = ap (λ b. cond b (x ∷ edges_at end token es) (edges_at end token es)) e ∙ next.same;
      has = next.has;
    }

pub next-is : (end : End) (token from : ℕ) (es : List Edge) → IsNext end token from (first_from end token from es) es
next-is end token from es =
    let f = how-far end token from (drop from es) in
    subst (λ (p : ℕ). IsNext end token from p es) (sym f.place) (record {
      behind = omega arith;
      same = f.same ∙ ap (edges_at end token) (drop-drop f.far from es);
      has = λ edge at. f.has edge (get-behind es from f.far ∙ at);
    })

-- at an edge of the token its label comes first, and then those of the edges behind it
pub labels-step : (end : End) (token place : ℕ) (es : List Edge) (edge : Edge) → slice_get es place ≡ Some edge → end_of end edge ≡ token
    → labels_at end token (drop place es) ≡ label_of end edge ∷ labels_at end token (drop (first_from end token (place + 1) es) es)
labels-step end token place es edge at is =
    let rest : List Edge = drop (place + 1) es in
    ap (labels_at end token) (drop-at es place edge at)
    ∙ ap (λ b. map (label_of end) (cond b (edge ∷ edges_at end token rest) (edges_at end token rest))) (eq-eqb (end_of end edge) token is)
    ∙ ap (λ (xs : List Edge). label_of end edge ∷ map (label_of end) xs) (next-is end token (place + 1) es).same

-- ## Edges put before the others

-- before the last edge no edge of a token stands
pub chained-none : (end : End) (s : Sentence) (firsts nexts : List ℕ) → firsts ≡ replicate (length s.tokens) (length s.edges) → nexts ≡ replicate (length s.edges) (length s.edges)
    → AreChained end s (length s.edges) firsts nexts
chained-none end s firsts nexts f n = record {
  tokens = ap length f ∙ length-replicate (length s.tokens) (length s.edges);
  edges = ap length n ∙ length-replicate (length s.edges) (length s.edges);
  first = λ t h.
      ap (λ xs. get_or xs t 0) f ∙ get_or-replicate (length s.tokens) t (length s.edges) 0 h
      ∙ sym (ap (first_at end t (length s.edges)) (drop-none s.edges (length s.edges) (omega arith)));
  next = λ place edge from at. absurd (omega (arith, from, slice_get_within s.edges place edge at));
}

pub chained-more : (end : End) (s : Sentence) (from token : ℕ) (edge : Edge) (firsts nexts firsts' nexts' : List ℕ) → AreChained end s (from + 1) firsts nexts
    → slice_get s.edges from ≡ Some edge → end_of end edge ≡ token → token < length s.tokens → firsts' ≡ set firsts token from → nexts' ≡ set nexts from (get_or firsts token 0)
    → AreChained end s from firsts' nexts'
chained-more end s from token edge firsts nexts firsts' nexts' was at is lt f n = record {
  tokens = ap length f ∙ length-set firsts token from ∙ was.tokens;
  edges = ap length n ∙ length-set nexts from (get_or firsts token 0) ∙ was.edges;
  first = λ t h. ap (λ xs. get_or xs t 0) f ∙ first t h (cases_eq t token);
  next = λ place e low there. ap (λ xs. get_or xs place 0) n ∙ next place e low there (cases_eq place from);
}
  where
    at-first : (t : ℕ) → first_from end t from s.edges ≡ cond (end_of end edge == t) from (first_from end t (from + 1) s.edges)
    at-first t = ap (first_at end t from) (drop-at s.edges from edge at)

    first : (t : ℕ) → t < length s.tokens → (t ≡ token) ⊎ (t ≡ token → ⊥) → get_or (set firsts token from) t 0 ≡ first_from end t from s.edges
    first t h (inl e) =
        let within : token < length firsts = omega (arith, was.tokens, lt) in
        ap (λ k. get_or (set firsts token from) k 0) e ∙ get_or-set_same firsts token from 0 within
        ∙ sym (at-first t ∙ ap (λ b. cond b from (first_from end t (from + 1) s.edges)) (eq-eqb (end_of end edge) t (is ∙ sym e)))
    first t h (inr ne) =
        get_or-set_other firsts token t from 0 ne ∙ was.first t h
        ∙ sym (at-first t ∙ ap (λ b. cond b from (first_from end t (from + 1) s.edges)) (ne_eqb (end_of end edge) t (λ q. ne (sym q ∙ is))))

    next : (place : ℕ) (e : Edge) → from ≤ place → slice_get s.edges place ≡ Some e → (place ≡ from) ⊎ (place ≡ from → ⊥)
        → get_or (set nexts from (get_or firsts token 0)) place 0 ≡ first_from end (end_of end e) (place + 1) s.edges
    next place e low there (inl q) =
        let within : from < length nexts = omega (arith, was.edges, slice_get_within s.edges from edge at) in
        let same : e ≡ edge = (let p : Some e ≡ Some edge = sym there ∙ ap (slice_get s.edges) q ∙ at in cc) in
        ap (λ k. get_or (set nexts from (get_or firsts token 0)) k 0) q ∙ get_or-set_same nexts from (get_or firsts token 0) 0 within
        ∙ was.first token lt
        ∙ ap (λ t. first_from end t (from + 1) s.edges) (sym (ap (end_of end) same ∙ is))
        ∙ ap (λ k. first_from end (end_of end e) (k + 1) s.edges) (sym q)
    next place e low there (inr ne) =
        get_or-set_other nexts from place (get_or firsts token 0) 0 ne
        ∙ was.next place e (omega (arith, low, ne)) there

-- an edge more, at a place of which more is known
pub chained-put : (end : End) (s : Sentence) (place token : ℕ) (firsts nexts firsts' nexts' : List ℕ) → AreChained end s (place + 1) firsts nexts
    → IsSomeAnd (slice_get s.edges place) (λ edge. end_of end edge ≡ token) → token < length s.tokens → firsts' ≡ set firsts token place → nexts' ≡ set nexts place (get_or firsts token 0)
    → AreChained end s place firsts' nexts'
chained-put end s place token firsts nexts firsts' nexts' was at lt f n =
    let e = some-and (slice_get s.edges place) (λ (edge : Edge). end_of end edge ≡ token) at in
    chained-more end s place token e.0 firsts nexts firsts' nexts' was e.1 e.2 lt f n
