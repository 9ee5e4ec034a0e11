-- What entries say, one more at a time.
use Rattle.std.proofs.Common.{◌≡◌, ℕ, zero, suc, ◌+◌, ◌<◌, List, [], ◌∷◌, ◌++◌, length, take, flat_map, refl, sym, ◌∙◌, ap, ap₂, subst, arith, append-nil, append_assoc}
use Rattle.std.proofs.lemmas.List.{map-append}
use Rattle.std.proofs.lemmas.Option.{slice_get_within}
use Rattle.std.specs.Prelude.{Option, Some, None, Contains, IsSomeAnd, slice_get}
use Rattle.std.specs.List.{enumerate_from}
use Rattle.od_text.specs.Lists.{Each}
use Rattle.od_text.proofs.Lists.{Each-flat_map, Each-right}
use Rattle.od_document.specs.declared.sentence.Sentence.{Sentence}
use Rattle.od_document.specs.declared.token.Edge.{Edge}
use Rattle.od_document.specs.declared.token.Token.{Token}
use Rattle.od_index.specs.Postings.{Posting}
use Rattle.od_index.specs.Sentences.{HasTerms, NumbersText}
use Rattle.od_index.specs.Terms.{Term, edge_terms, sentence_terms, term_in, terms_at, text_in, token_terms}
use Rattle.od_index.proofs.Members.{Each-at, Each-from_flat_map}
use Rattle.od_pattern.specs.declared.pattern.Field.{Field}
use Rattle.od_pattern.specs.declared.pattern.Field.TheVariants.{Outgoing}
use Rattle.od_posted.specs.Chains.{labels_at, own_marks, own_term}
use Rattle.od_posted.specs.declared.chains.End.TheVariants.{Dependent, Governor}
use Rattle.od_posted.specs.Entries.{Mark, marks_of, marks_at, marks_here, marks_in, sentence_marks, token_marks, AreEntries}

-- ## Entries

pub mark-put : (table : List Term) (es es' : List (ℕ × Posting)) (number : ℕ) (at : Posting) (term : Term) → es' ≡ es ++ (number, at) ∷ [] → slice_get table number ≡ Some term
    → marks_of table es' ≡ marks_of table es ++ marks_at at (term ∷ [])
mark-put table es es' number at term is there =
    ap (marks_of table) is
    ∙ map-append (λ (e : ℕ × Posting). (slice_get table e.0, e.1)) es ((number, at) ∷ [])
    ∙ ap (λ (o : Option Term). marks_of table es ++ (o, at) ∷ []) there

-- ## A token's own terms

own-none : (table : List Term) (field : Field) (o : Option Token) → IsSomeAnd o (λ t. NumbersText table field (text_in field t) None) → own_term field o ≡ []
own-none table field None h = refl
own-none table field (Some t) h = by (text_in field t) h
  where
    by : (x : Option (List ℕ)) → NumbersText table field x None → term_in field x ≡ []
    by None g = refl
    by (Some text) g = absurd g

own-some : (table : List Term) (field : Field) (o : Option Token) (n : ℕ) → IsSomeAnd o (λ t. NumbersText table field (text_in field t) (Some n))
    → (term : Term) × (slice_get table n ≡ Some term) × (own_term field o ≡ term ∷ [])
own-some table field None n h = absurd h
own-some table field (Some t) n h = by (text_in field t) h
  where
    by : (x : Option (List ℕ)) → NumbersText table field x (Some n) → (term : Term) × (slice_get table n ≡ Some term) × (term_in field x ≡ term ∷ [])
    by None g = absurd (let q : ◌≡◌ {A = Option ℕ} (Some n) None = g in cc)
    by (Some text) g = ((field, text), g, refl)

-- where there is no text, nothing is put
pub own-kept : (table : List Term) (field : Field) (o : Option Token) (at : Posting) (es : List (ℕ × Posting)) → IsSomeAnd o (λ t. NumbersText table field (text_in field t) None)
    → marks_of table es ≡ marks_of table es ++ marks_at at (own_term field o)
own-kept table field o at es h = sym (ap (λ ts. marks_of table es ++ marks_at at ts) (own-none table field o h) ∙ append-nil (marks_of table es))

-- and where there is one, its number is
pub own-put : (table : List Term) (field : Field) (o : Option Token) (n : ℕ) (at : Posting) (es es' : List (ℕ × Posting)) → IsSomeAnd o (λ t. NumbersText table field (text_in field t) (Some n))
    → es' ≡ es ++ (n, at) ∷ [] → marks_of table es' ≡ marks_of table es ++ marks_at at (own_term field o)
own-put table field o n at es es' h is =
    let t = own-some table field o n h in
    mark-put table es es' n at t.0 is t.1 ∙ ap (λ ts. marks_of table es ++ marks_at at ts) (sym t.2)

own-all : (at : Posting) (token : Token) → own_marks at (Some token) ≡ marks_at at (token_terms token)
own-all at token = sym (simp map-append)

-- ## A token

-- its own terms, and the labels of the edges that end and that begin there
pub here-is : (n : ℕ) (s : Sentence) (k : ℕ) → k < length s.tokens
    → own_marks (n, k) (slice_get s.tokens k) ++ (marks_at (n, k) (labels_at Dependent k s.edges) ++ marks_at (n, k) (labels_at Governor k s.edges))
    ≡ marks_here n s k (slice_get s.tokens k)
here-is n s k h = by (slice_get s.tokens k) refl
  where
    by : (o : Option Token) → slice_get s.tokens k ≡ o
        → own_marks (n, k) o ++ (marks_at (n, k) (labels_at Dependent k s.edges) ++ marks_at (n, k) (labels_at Governor k s.edges)) ≡ marks_here n s k o
    by None at = absurd (past s.tokens k h at)
      where
        past : (ts : List Token) (j : ℕ) → j < length ts → slice_get ts j ≡ None → ⊥
        past [] j g q = omega (arith, g)
        past (t ∷ ts) zero g q = cc
        past (t ∷ ts) (suc j) g q = past ts j (omega (arith, g)) q
    by (Some t) at =
        ap₂ (λ (a b : List Mark). a ++ b) (own-all (n, k) t)
        (sym (map-append (λ (term : Term). (Some term, (n, k))) (labels_at Dependent k s.edges) (labels_at Governor k s.edges)))
        ∙ sym (map-append (λ (term : Term). (Some term, (n, k))) (token_terms t) (labels_at Dependent k s.edges ++ labels_at Governor k s.edges))

-- ## One after another

module _ {X Y : Type 0} (f : ℕ × X → List Y) where
  flat-more : (from : ℕ) (xs : List X) (k : ℕ) (x : X) → slice_get xs k ≡ Some x
      → flat_map f (enumerate_from from (take (k + 1) xs)) ≡ flat_map f (enumerate_from from (take k xs)) ++ f (from + k, x)
  flat-more from [] k x at = absurd (let q : ◌≡◌ {A = Option X} None (Some x) = at in cc)
  flat-more from (y ∷ xs) zero x at =
      let q : y ≡ x = (let p : Some y ≡ Some x = at in cc) in
      let z : from ≡ from + 0 = omega arith in
      append-nil (f (from, y)) ∙ ap₂ (λ k w. f (k, w)) z q
  flat-more from (y ∷ xs) (suc k) x at =
      let e : suc k + 1 ≡ suc (k + 1) = omega arith in
      let z : from + 1 + k ≡ from + suc k = omega arith in
      ap (λ j. flat_map f (enumerate_from from (take j (y ∷ xs)))) e
      ∙ ap (λ r. f (from, y) ++ r) (flat-more (from + 1) xs k x at)
      ∙ sym (append_assoc (f (from, y)) (flat_map f (enumerate_from (from + 1) (take k xs))) (f (from + 1 + k, x)))
      ∙ ap (λ j. (f (from, y) ++ flat_map f (enumerate_from (from + 1) (take k xs))) ++ f (j, x)) z

  pub flat-next : (xs : List X) (k : ℕ) (x : X) → slice_get xs k ≡ Some x → flat_map f (enumerate_from 0 (take (k + 1) xs)) ≡ flat_map f (enumerate_from 0 (take k xs)) ++ f (k, x)
  flat-next xs k x at =
      let z : 0 + k ≡ k = omega arith in
      flat-more 0 xs k x at ∙ ap (λ j. flat_map f (enumerate_from 0 (take k xs)) ++ f (j, x)) z

-- the marks of a token more
pub tokens-next : (n : ℕ) (s : Sentence) (k : ℕ) → k < length s.tokens
    → flat_map (token_marks n s) (enumerate_from 0 (take (k + 1) s.tokens)) ≡ flat_map (token_marks n s) (enumerate_from 0 (take k s.tokens)) ++ marks_here n s k (slice_get s.tokens k)
tokens-next n s k h = by (slice_get s.tokens k) refl
  where
    by : (o : Option Token) → slice_get s.tokens k ≡ o
        → flat_map (token_marks n s) (enumerate_from 0 (take (k + 1) s.tokens)) ≡ flat_map (token_marks n s) (enumerate_from 0 (take k s.tokens)) ++ marks_here n s k o
    by None at = absurd (past s.tokens k h at)
      where
        past : (ts : List Token) (j : ℕ) → j < length ts → slice_get ts j ≡ None → ⊥
        past [] j g q = omega (arith, g)
        past (t ∷ ts) zero g q = cc
        past (t ∷ ts) (suc j) g q = past ts j (omega (arith, g)) q
    by (Some t) at = flat-next (token_marks n s) s.tokens k t at

-- ## Numbers of entries

abbrev IsTold : Mark → Type 0
IsTold w = (term : Term) × (w.0 ≡ Some term)

told-at : (at : Posting) (ts : List Term) → Each IsTold (marks_at at ts)
told-at at [] = tt
told-at at (t ∷ ts) = ((t, refl), told-at at ts)

each-of : {X : Type 0} (P : X → Type 0) → ((x : X) → P x) → (xs : List X) → Each P xs
each-of P h [] = tt
each-of P h (x ∷ xs) = (h x, each-of P h xs)

told-in : (ss : List Sentence) → Each IsTold (marks_in ss)
told-in ss =
    Each-flat_map IsTold sentence_marks (enumerate_from 0 ss)
    (each-of (λ (s : ℕ × Sentence). Each IsTold (sentence_marks s)) (λ (s : ℕ × Sentence).
    Each-flat_map IsTold (token_marks s.0 s.1) (enumerate_from 0 s.1.tokens)
    (each-of (λ (t : ℕ × Token). Each IsTold (token_marks s.0 s.1 t)) (λ (t : ℕ × Token). told-at (s.0, t.0) (terms_at s.1 t)) (enumerate_from 0 s.1.tokens)))
    (enumerate_from 0 ss))

numbers-told : (table : List Term) (es : List (ℕ × Posting)) → Each IsTold (marks_of table es) → Each (λ (e : ℕ × Posting). e.0 < length table) es
numbers-told table [] h = tt
numbers-told table (e ∷ es) h = (slice_get_within table e.0 h.0.0 h.0.1, numbers-told table es h.1)

-- the numbers of entries are those of terms
pub numbers-within : (table : List Term) (ss : List Sentence) (es : List (ℕ × Posting)) → AreEntries table ss es → Each (λ (e : ℕ × Posting). e.0 < length table) es
numbers-within table ss es are = numbers-told table es (subst (Each IsTold) (sym are) (told-in ss))

-- ## Labels

-- the label of a sentence's edge goes out
pub goes-out : (table : List Term) (s : Sentence) (place : ℕ) (edge : Edge) → HasTerms table (sentence_terms s) → slice_get s.edges place ≡ Some edge → Contains table (Outgoing, edge.label)
goes-out table s place edge has at =
    let edges = Each-right (Contains table) (flat_map token_terms s.tokens) (flat_map edge_terms s.edges) has in
    let here = Each-at (λ e. Each (Contains table) (edge_terms e)) s.edges place edge (Each-from_flat_map (Contains table) edge_terms s.edges edges) at in
    here.1.0

-- ## A token more

pub token-put : (none own ended begun : List Mark) (a b c here : List Mark) → own ≡ none ++ a → ended ≡ own ++ b → begun ≡ ended ++ c → a ++ (b ++ c) ≡ here → begun ≡ none ++ here
token-put none own ended begun a b c here h g f is =
    f ∙ ap (λ m. m ++ c) (g ∙ ap (λ m. m ++ b) h)
    ∙ append_assoc (none ++ a) b c ∙ append_assoc none a (b ++ c)
    ∙ ap (λ m. none ++ m) is

pub more-put : (none old new : List Mark) (a b ab : List Mark) → old ≡ none ++ a → new ≡ old ++ b → ab ≡ a ++ b → new ≡ none ++ ab
more-put none old new a b ab h g is = g ∙ ap (λ m. m ++ b) h ∙ append_assoc none a b ∙ ap (λ m. none ++ m) (sym is)
