-- Posting lists ascend, and have one order.
use Rattle.std.proofs.Common.{◌≡◌, ℕ, suc, ◌+◌, ◌≤◌, ◌<◌, List, [], ◌∷◌, ◌++◌, length, map, filter, flat_map, Bool, true, false, cond, refl, sym, ◌∙◌, ap, ap₂, subst, arith, lt-ltb, inl, inr}
use Rattle.std.specs.Prelude.{Contains, ◌⊎◌, ◌==◌}
use Rattle.std.specs.declared.cmp.Ordering.TheVariants.{Less, Equal, Greater}
use Rattle.std.specs.Ordering.{ordering_then, nat_cmp}
use Rattle.std.specs.List.{enumerate_from, list_any, AllByRecursion}
use Rattle.std.specs.List.Sorted.{IsStrictlySortedBy}
use Rattle.std.specs.Cmp.Lexicographic.{slice_cmp}
use Rattle.std.proofs.lemmas.Cmp.{nat_cmp_total, tied_itself}
use Rattle.std.proofs.lemmas.Map.Keys.{sorted_head, sorted_tail}
use Rattle.std.proofs.lemmas.List.Elements.{Contains-append_cases, Contains-append_left, Contains-append_right}
use Rattle.od_text.specs.Lists.{Each}
use Rattle.od_document.specs.declared.token.Token.{Token}
use Rattle.od_document.specs.declared.sentence.Sentence.{Sentence}
use Rattle.od_index.specs.Ascending.{pair_cmp}
use Rattle.od_index.specs.Laws.{PostingsAscend, EdgePostingsJoin, OneListOfEdges}
use Rattle.od_index.specs.Postings.{Posting, shifted, postings_in, edges_in, edges_with, ends_number, IsEdgePosting}
use Rattle.od_index.specs.Terms.{Term, terms_at}
use Rattle.od_index.specs.Tables.{same_term}
use Rattle.od_index.proofs.Members.{Contains-map, Contains-from_map, Contains-none, Contains-head, Contains-tail}
use Rattle.od_index.proofs.Numbered.{edges-join}
use Rattle.od_index.proofs.Orders.{one-ascending, pairs-exact, texts-exact}
use Rattle.od_index.proofs.Placed.{sorted-cons, sorted-nil, sorted-append}

less : (i j : ℕ) → i < j → nat_cmp i j ≡ Less
less i j h = ap (λ b. cond b Less (cond (i == j) Equal Greater)) (lt-ltb i j h)

-- of an earlier sentence, or of the same one and less
earlier : (a b : Posting) → a.0 < b.0 → pair_cmp a b ≡ Less
earlier a b h = ap (λ o. ordering_then o (nat_cmp a.1 b.1)) (less a.0 b.0 h)

within : (a b : Posting) → a.0 ≡ b.0 → a.1 < b.1 → pair_cmp a b ≡ Less
within a b e h = ap₂ ordering_then (ap (λ n. nat_cmp n b.0) e ∙ tied_itself nat_cmp_total b.0) (less a.1 b.1 h)

-- ## Of one sentence

module _ (n : ℕ) (test : ℕ × Token → Bool) where
  abbrev tokens_from : ℕ → List Token → List Posting
  tokens_from m tokens = map (λ token. (n, token.0)) (filter test (enumerate_from m tokens))

  kept-from : (P : Posting → Type 0) (m : ℕ) (t : ℕ × Token) (rest : List (ℕ × Token)) (b : Bool) → P (n, t.0) → AllByRecursion P (map (λ token. (n, token.0)) rest)
      → AllByRecursion P (map (λ token. (n, token.0)) (cond b (t ∷ rest) rest))
  kept-from P m t rest true h k = (h, k)
  kept-from P m t rest false h k = k

  -- from a token on
  at-least : (m : ℕ) (tokens : List Token) → AllByRecursion (λ p. (p.0 ≡ n) × (m ≤ p.1)) (tokens_from m tokens)
  at-least m [] = tt
  at-least m (t ∷ tokens) = kept-from (λ p. (p.0 ≡ n) × (m ≤ p.1)) m (m, t) (filter test (enumerate_from (m + 1) tokens)) (test (m, t)) (refl, omega arith) (weaker (tokens_from (m + 1) tokens) (at-least (m + 1) tokens))
    where
      weaker : (ps : List Posting) → AllByRecursion (λ p. (p.0 ≡ n) × (m + 1 ≤ p.1)) ps → AllByRecursion (λ p. (p.0 ≡ n) × (m ≤ p.1)) ps
      weaker [] h = tt
      weaker (p ∷ ps) h = ((h.0.0, let l : m + 1 ≤ p.1 = h.0.1 in omega arith), weaker ps h.1)

  after : (m : ℕ) (ps : List Posting) → AllByRecursion (λ p. (p.0 ≡ n) × (m + 1 ≤ p.1)) ps → AllByRecursion (λ p. pair_cmp (n, m) p ≡ Less) ps
  after m [] h = tt
  after m (p ∷ ps) h = (within (n, m) p (sym h.0.0) (let l : m + 1 ≤ p.1 = h.0.1 in omega arith), after m ps h.1)

  sorted-kept : (m : ℕ) (t : Token) (rest : List (ℕ × Token)) (b : Bool) → AllByRecursion (λ p. pair_cmp (n, m) p ≡ Less) (map (λ token. (n, token.0)) rest)
      → IsStrictlySortedBy pair_cmp (map (λ token. (n, token.0)) rest) → IsStrictlySortedBy pair_cmp (map (λ token. (n, token.0)) (cond b ((m, t) ∷ rest) rest))
  sorted-kept m t rest true h k = sorted-cons pair_cmp (n, m) (map (λ token. (n, token.0)) rest) h k
  sorted-kept m t rest false h k = k

  sorted-from : (m : ℕ) (tokens : List Token) → IsStrictlySortedBy pair_cmp (tokens_from m tokens)
  sorted-from m [] = sorted-nil pair_cmp
  sorted-from m (t ∷ tokens) =
      sorted-kept m t (filter test (enumerate_from (m + 1) tokens)) (test (m, t)) (after m (tokens_from (m + 1) tokens) (at-least (m + 1) tokens)) (sorted-from (m + 1) tokens)

-- ## Of all sentences

abbrev IsFrom : ℕ → Posting → Type 0
IsFrom n p = n ≤ p.0

all-both : (P : Posting → Type 0) (xs ys : List Posting) → AllByRecursion P xs → AllByRecursion P ys → AllByRecursion P (xs ++ ys)
all-both P [] ys h k = k
all-both P (x ∷ xs) ys h k = (h.0, all-both P xs ys h.1 k)

all-weaker : (P Q : Posting → Type 0) → ((p : Posting) → P p → Q p) → (ps : List Posting) → AllByRecursion P ps → AllByRecursion Q ps
all-weaker P Q w [] h = tt
all-weaker P Q w (p ∷ ps) h = (w p h.0, all-weaker P Q w ps h.1)

module _ (term : Term) where
  test_in : Sentence → ℕ × Token → Bool
  test_in s token = list_any (same_term term) (terms_at s token)

  postings-from : (n : ℕ) (sentences : List Sentence) → AllByRecursion (IsFrom n) (flat_map (postings_in term) (enumerate_from n sentences))
  postings-from n [] = tt
  postings-from n (s ∷ sentences) =
      all-both (IsFrom n) (postings_in term (n, s)) (flat_map (postings_in term) (enumerate_from (n + 1) sentences))
      (all-weaker (λ p. (p.0 ≡ n) × (0 ≤ p.1)) (IsFrom n) (λ p h. let e : p.0 ≡ n = h.0 in omega arith) (postings_in term (n, s)) (at-least n (λ token. list_any (same_term term) (terms_at s token)) 0 s.tokens))
      (all-weaker (IsFrom (n + 1)) (IsFrom n) (λ p h. let l : n + 1 ≤ p.0 = h in omega arith) (flat_map (postings_in term) (enumerate_from (n + 1) sentences)) (postings-from (n + 1) sentences))

  sorted-all : (n : ℕ) (sentences : List Sentence) → IsStrictlySortedBy pair_cmp (flat_map (postings_in term) (enumerate_from n sentences))
  sorted-all n [] = sorted-nil pair_cmp
  sorted-all n (s ∷ sentences) =
      let rest = flat_map (postings_in term) (enumerate_from (n + 1) sentences) in
      sorted-append pair_cmp (postings_in term (n, s)) rest (sorted-from n (λ token. list_any (same_term term) (terms_at s token)) 0 s.tokens) (sorted-all (n + 1) sentences)
      (all-weaker (λ p. (p.0 ≡ n) × (0 ≤ p.1)) (λ p. AllByRecursion (λ q. pair_cmp p q ≡ Less) rest)
      (λ p h. all-weaker (IsFrom (n + 1)) (λ q. pair_cmp p q ≡ Less) (λ q l. earlier p q (let e : p.0 ≡ n = h.0 in let k : n + 1 ≤ q.0 = l in omega arith)) rest (postings-from (n + 1) sentences))
      (postings_in term (n, s)) (at-least n (λ token. list_any (same_term term) (terms_at s token)) 0 s.tokens))

pub postings-ascend : PostingsAscend
postings-ascend term sentences = sorted-all term 0 sentences

-- ## Edges

-- an edge stands in one of the sentences
edges-before : (label : List ℕ) (n : ℕ) (sentences : List Sentence) (p : Posting) → Contains (flat_map (edges_in label) (enumerate_from n sentences)) p → p.0 < n + length sentences
edges-before label n [] p h = absurd (Contains-none p h)
edges-before label n (s ∷ sentences) p h = by (Contains-append_cases (edges_in label (n, s)) (flat_map (edges_in label) (enumerate_from (n + 1) sentences)) p h) (edges-before label (n + 1) sentences p)
  where
    by : Contains (edges_in label (n, s)) p ⊎ Contains (flat_map (edges_in label) (enumerate_from (n + 1) sentences)) p
        → (Contains (flat_map (edges_in label) (enumerate_from (n + 1) sentences)) p → p.0 < n + 1 + length sentences) → p.0 < n + suc (length sentences)
    by (inl c) k = let found = Contains-from_map (λ edge. (n, ends_number edge)) _ p c in let e : n ≡ p.0 = ap (λ (q : Posting). q.0) found.2 in omega arith
    by (inr c) k = let l : p.0 < n + 1 + length sentences = k c in omega arith

shifted-less : (n : ℕ) (a b : Posting) → pair_cmp (shifted n a) (shifted n b) ≡ pair_cmp a b
shifted-less n a b = ap (λ o. ordering_then o (nat_cmp a.1 b.1)) (same-cmp n a.0 b.0)
  where
    same-cmp : (n i j : ℕ) → nat_cmp (n + i) (n + j) ≡ nat_cmp i j
    same-cmp n i j = grind (arith)

sorted-shifted : (n : ℕ) (ps : List Posting) → IsStrictlySortedBy pair_cmp ps → IsStrictlySortedBy pair_cmp (map (shifted n) ps)
sorted-shifted n [] h = sorted-nil pair_cmp
sorted-shifted n (p ∷ ps) h = sorted-cons pair_cmp (shifted n p) (map (shifted n) ps) (heads ps (sorted_head pair_cmp p ps h)) (sorted-shifted n ps (sorted_tail pair_cmp p ps h))
  where
    heads : (qs : List Posting) → AllByRecursion (λ q. pair_cmp p q ≡ Less) qs → AllByRecursion (λ q. pair_cmp (shifted n p) q ≡ Less) (map (shifted n) qs)
    heads [] k = tt
    heads (q ∷ qs) k = (shifted-less n p q ∙ k.0, heads qs k.1)

each-below : (n : ℕ) (ps qs : List Posting) → ((p : Posting) → Contains ps p → p.0 < n) → AllByRecursion (λ p. AllByRecursion (λ q. pair_cmp p q ≡ Less) (map (shifted n) qs)) ps
each-below n [] qs h = tt
each-below n (p ∷ ps) qs h = (behind qs, each-below n ps qs (λ q c. h q (Contains-tail p ps q c)))
  where
    behind : (qs : List Posting) → AllByRecursion (λ q. pair_cmp p q ≡ Less) (map (shifted n) qs)
    behind [] = tt
    behind (q ∷ qs) = (earlier p (shifted n q) (let l : p.0 < n = h p (Contains-head p ps) in omega arith), behind qs)

pub edge-postings-join : EdgePostingsJoin
edge-postings-join label a b left right p q = record {
  ascends = sorted-append pair_cmp left (map (shifted (length a)) right) p.ascends (sorted-shifted (length a) right q.ascends)
      (each-below (length a) left right (λ x c. let l = edges-before label 0 a x (p.adds_none x c) in omega (arith, l)));
  has = λ x c. into x (Contains-append_cases (edges_with label a) (map (shifted (length a)) (edges_with label b)) x (subst (λ (xs : List Posting). Contains xs x) (edges-join label a b) c));
  adds_none = λ x c. subst (λ (xs : List Posting). Contains xs x) (sym (edges-join label a b)) (from x (Contains-append_cases left (map (shifted (length a)) right) x c));
}
  where
    into : (x : Posting) → Contains (edges_with label a) x ⊎ Contains (map (shifted (length a)) (edges_with label b)) x → Contains (left ++ map (shifted (length a)) right) x
    into x (inl c) = Contains-append_left left (map (shifted (length a)) right) x (p.has x c)
    into x (inr c) =
        let f = Contains-from_map (shifted (length a)) (edges_with label b) x c in
        Contains-append_right left (map (shifted (length a)) right) x
        (subst (λ (z : Posting). Contains (map (shifted (length a)) right) z) f.2 (Contains-map (shifted (length a)) right f.0 (q.has f.0 f.1)))

    from : (x : Posting) → Contains left x ⊎ Contains (map (shifted (length a)) right) x → Contains (edges_with label a ++ map (shifted (length a)) (edges_with label b)) x
    from x (inl c) = Contains-append_left (edges_with label a) (map (shifted (length a)) (edges_with label b)) x (p.adds_none x c)
    from x (inr c) =
        let f = Contains-from_map (shifted (length a)) right x c in
        Contains-append_right (edges_with label a) (map (shifted (length a)) (edges_with label b)) x
        (subst (λ (z : Posting). Contains (map (shifted (length a)) (edges_with label b)) z) f.2 (Contains-map (shifted (length a)) (edges_with label b) f.0 (q.adds_none f.0 f.1)))

-- lists of labels with their posting lists that have the same labels
same-lists : (sentences : List Sentence) (a b : List (List ℕ × List Posting)) → map (λ l. l.0) a ≡ map (λ l. l.0) b
    → Each (λ l. IsEdgePosting l.0 sentences l.1) a → Each (λ l. IsEdgePosting l.0 sentences l.1) b → a ≡ b
same-lists sentences [] [] e h k = refl
same-lists sentences [] (y ∷ b) e h k = absurd (cc)
same-lists sentences (x ∷ a) [] e h k = absurd (cc)
same-lists sentences (x ∷ a) (y ∷ b) e h k =
    let label : x.0 ≡ y.0 = cc in
    let rest : map (λ (l : List ℕ × List Posting). l.0) a ≡ map (λ (l : List ℕ × List Posting). l.0) b = cc in
    let list : x.1 ≡ y.1 = one-ascending pair_cmp pairs-exact (edges_with y.0 sentences) x.1 y.1 (subst (λ (l : List ℕ). IsEdgePosting l sentences x.1) label h.0) k.0 in
    ap₂ (λ l p. (l, p) ∷ a) label list ∙ ap (λ ls. y ∷ ls) (same-lists sentences a b rest h.1 k.1)

pub one-list-of-edges : OneListOfEdges
one-list-of-edges sentences a b p q =
    same-lists sentences a b (one-ascending (slice_cmp nat_cmp) texts-exact _ (map (λ l. l.0) a) (map (λ l. l.0) b) p.labels q.labels) p.postings q.postings
