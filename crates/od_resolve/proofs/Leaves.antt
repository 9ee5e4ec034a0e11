-- Numbers of fitting texts stand in a sentence exactly where some token has such a text.
use Rattle.std.proofs.Common.{◌≡◌, ℕ, zero, suc, ◌+◌, ◌<◌, Bool, true, false, cond, List, [], ◌∷◌, ◌++◌, length, map, filter, refl, sym, ◌∙◌, ap, subst, arith, inl, inr}
use Rattle.std.proofs.lemmas.Bool.{and_parts, or_cases, or_left, or_right, eqb-true}
use Rattle.std.proofs.lemmas.List.Elements.{Contains-append_cases, Contains-append_left, Contains-append_right}
use Rattle.std.proofs.lemmas.Option.{slice_get_within}
use Rattle.std.proofs.lemmas.Slice.Eq.{bytes_eq-Decides}
use Rattle.std.specs.Prelude.{◌&&◌, ◌||◌, ◌==◌, ◌⊎◌, bytes_eq, Contains, Option, Some, None, slice_get}
use Rattle.std.specs.List.{flat_map, list_any}
use Rattle.od_asked.specs.Holds.{has_text, texts_at}
use Rattle.od_asked.specs.Texts.{fits}
use Rattle.od_document.specs.declared.sentence.Sentence.{Sentence}
use Rattle.od_document.specs.declared.token.Edge.{Edge}
use Rattle.od_document.specs.declared.token.Token.{Token}
use Rattle.od_index.specs.Postings.{stands_at}
use Rattle.od_index.specs.Sentences.{HasTerms}
use Rattle.od_index.specs.Tables.{IsNumber, field_place, same_term}
use Rattle.od_index.specs.Terms.{Term, sentence_terms, token_terms, edge_terms, terms_at}
use Rattle.od_index.proofs.Members.{Contains-head, Contains-tail, Contains-cases, Contains-none, Contains-slice_get, Contains-from_map, Each-in, slice_get-contained, slice_get-within}
use Rattle.od_index.proofs.Tables.{same-place}
use Rattle.od_matching.proofs.Matching.Tests.{any_at, some_below, any_there}
use Rattle.od_matching.proofs.Rounds.Terms.{terms-are-texts}
use Rattle.od_need.proofs.Posted.{same-truth, some-at'}
use Rattle.od_need.specs.Occurs.{some_token}
use Rattle.od_pattern.specs.declared.pattern.Field.{Field}
use Rattle.od_pattern.specs.declared.pattern.Field.TheVariants.{Incoming, Outgoing}
use Rattle.od_pattern.specs.declared.pattern.Value.{Value}
use Rattle.od_pattern.specs.declared.pattern.Value.TheVariants.{Plain}
use Rattle.od_constraint.specs.Fitting.{AreFitting}
use Rattle.od_plan.specs.Means.{term_stands, stands_in}

-- ## Of lists

-- an element that passes
passing : {X : Type 0} (test : X → Bool) (xs : List X) → list_any test xs ≡ true → (x : X) × Contains xs x × (test x ≡ true)
passing test [] e = absurd (let q : false ≡ true = e in cc)
passing test (x ∷ xs) e = elim (or_cases (test x) (list_any test xs) e) [
  | inl here ↦ (x, Contains-head x xs, here)
  | inr there ↦ let r = passing test xs there in (r.0, Contains-tail x xs r.0 r.1, r.2)
]

passes-in : {X : Type 0} (test : X → Bool) (xs : List X) (x : X) → Contains xs x → test x ≡ true → list_any test xs ≡ true
passes-in test xs x c e = let r = slice_get-contained xs x c in any_there test xs r.0 x r.1 e

in-flat_map : {X Y : Type 0} (f : X → List Y) (xs : List X) (x : X) (y : Y) → Contains xs x → Contains (f x) y → Contains (flat_map f xs) y
in-flat_map f [] x y c d = absurd (Contains-none x c)
in-flat_map {X = X} f (z ∷ xs) x y c d = by (Contains-cases z xs x c) (in-flat_map f xs x y)
  where
    by : (z ≡ x) ⊎ Contains xs x → (Contains xs x → Contains (f x) y → Contains (flat_map f xs) y) → Contains (f z ++ flat_map f xs) y
    by (inl e) g = Contains-append_left (f z) (flat_map f xs) y (subst (λ w. Contains (f w) y) (sym e) d)
    by (inr k) g = Contains-append_right (f z) (flat_map f xs) y (g k d)

in-filter : {X : Type 0} (test : X → Bool) (xs : List X) (x : X) → Contains (filter test xs) x → Contains xs x
in-filter test [] x c = c
in-filter {X = X} test (y ∷ xs) x c = by (test y) c (in-filter test xs x)
  where
    by : (b : Bool) → Contains (cond b (y ∷ filter test xs) (filter test xs)) x → (Contains (filter test xs) x → Contains xs x) → Contains (y ∷ xs) x
    by false d f = Contains-tail y xs x (f d)
    by true d f = elim (Contains-cases y (filter test xs) x d) [
      | inl e ↦ subst (Contains (y ∷ xs)) e (Contains-head y xs)
      | inr k ↦ Contains-tail y xs x (f k)
    ]

-- ## Terms at a token

-- the labels of an edge
label-in : (field : Field) (edge : Edge) (term : Term) → (field ≡ Incoming) ⊎ (field ≡ Outgoing) → (field, edge.label) ≡ term → Contains (edge_terms edge) term
label-in field edge term (inl i) e =
    subst (Contains (edge_terms edge)) e (subst (λ (f : Field). Contains (edge_terms edge) (f, edge.label)) (sym i) (Contains-head (Incoming, edge.label) ((Outgoing, edge.label) ∷ [])))
label-in field edge term (inr o) e =
    subst (Contains (edge_terms edge)) e (subst (λ (f : Field). Contains (edge_terms edge) (f, edge.label)) (sym o)
    (Contains-tail (Incoming, edge.label) ((Outgoing, edge.label) ∷ []) (Outgoing, edge.label) (Contains-head (Outgoing, edge.label) [])))

labels-in : (s : Sentence) (field : Field) (test : Edge → Bool) (term : Term) → (field ≡ Incoming) ⊎ (field ≡ Outgoing)
    → Contains (map (λ (edge : Edge). (field, edge.label)) (filter test s.edges)) term → Contains (flat_map edge_terms s.edges) term
labels-in s field test term which c =
    let r = Contains-from_map (λ (edge : Edge). (field, edge.label)) (filter test s.edges) term c in
    in-flat_map edge_terms s.edges r.0 term (in-filter test s.edges r.0 r.1) (label-in field r.0 term which r.2)

-- a term at a token is one of the sentence
at-token : (s : Sentence) (k : ℕ) (token : Token) (term : Term) → slice_get s.tokens k ≡ Some token → Contains (terms_at s (k, token)) term → Contains (sentence_terms s) term
at-token s k token term at c =
    elim (Contains-append_cases (token_terms token) _ term c) [
      | inl own ↦ Contains-append_left (flat_map token_terms s.tokens) (flat_map edge_terms s.edges) term
          (in-flat_map token_terms s.tokens token term (Contains-slice_get s.tokens k token at) own)
      | inr ends ↦ Contains-append_right (flat_map token_terms s.tokens) (flat_map edge_terms s.edges) term (
          elim (Contains-append_cases (map (λ (edge : Edge). (Incoming, edge.label)) (filter (λ (edge : Edge). edge.dependent == k) s.edges)) _ term ends) [
            | inl comes ↦ labels-in s Incoming (λ (edge : Edge). edge.dependent == k) term (inl refl) comes
            | inr goes ↦ labels-in s Outgoing (λ (edge : Edge). edge.governor == k) term (inr refl) goes
          ]
          )
    ]

same-terms : (a b : Term) → same_term a b ≡ true → a ≡ b
same-terms a b e =
    let both = and_parts _ _ e in
    let fields : a.0 ≡ b.0 = same-place a.0 b.0 (eqb-true _ _ both.0) in
    let texts : a.1 ≡ b.1 = (bytes_eq-Decides a.1 b.1).0 both.1 in
    ap (λ (f : Field). (f, a.1)) fields ∙ ap (λ (t : List ℕ). (b.0, t)) texts

-- a text at a token is a term of the sentence
text-is-term : (s : Sentence) (k : ℕ) (field : Field) (text : List ℕ) → k < length s.tokens → has_text s field (Plain text) k ≡ true → Contains (sentence_terms s) (field, text)
text-is-term s k field text lt e =
    let token = some-at' s.tokens k lt in
    let stands : list_any (same_term (field, text)) (terms_at s (k, token.0)) ≡ true = terms-are-texts s k token.0 field text token.1 ∙ e in
    let term = passing (same_term (field, text)) (terms_at s (k, token.0)) stands in
    at-token s k token.0 (field, text) token.1 (subst (Contains (terms_at s (k, token.0))) (sym (same-terms (field, text) term.0 term.2)) term.1)

-- ## Numbers that fit

-- where a text that fits stands, some fitting text does
text-fits : (s : Sentence) (field : Field) (v : Value) (text : List ℕ) (k : ℕ) → fits v text ≡ true → has_text s field (Plain text) k ≡ true → has_text s field v k ≡ true
text-fits s field v text k fit e =
    let r = passing (bytes_eq text) (texts_at s k field) e in
    let same : text ≡ r.0 = (bytes_eq-Decides text r.0).0 r.2 in
    passes-in (fits v) (texts_at s k field) r.0 r.1 (subst (λ t. fits v t ≡ true) same fit)

pub fitting-stand : (table : List Term) (s : Sentence) (field : Field) (v : Value) (ns : List ℕ) → HasTerms table (sentence_terms s) → AreFitting table field v ns
    → list_any (stands_in table s) ns ≡ some_token s field v
fitting-stand table s field v ns has fitting =
    same-truth (list_any (stands_in table s) ns) (some_token s field v)
    (λ e.
    let r = passing (stands_in table s) ns e in
    let t = fitting.adds_none r.0 r.1 in
    let stands : some_token s field (Plain t.0) ≡ true = sym (ap (term_stands s) t.1) ∙ r.2 in
    let k = some_below (length s.tokens) (has_text s field (Plain t.0)) stands in
    any_at (length s.tokens) (has_text s field v) k.0 k.1 (text-fits s field v t.0 k.0 t.2 k.2)
    )
    (λ e.
    let k = some_below (length s.tokens) (has_text s field v) e in
    let t = passing (fits v) (texts_at s k.0 field) k.2 in
    let here : has_text s field (Plain t.0) k.0 ≡ true = passes-in (bytes_eq t.0) (texts_at s k.0 field) t.0 t.1 ((bytes_eq-Decides t.0 t.0).1 refl) in
    let term = Each-in (Contains table) (sentence_terms s) (field, t.0) has (text-is-term s k.0 field t.0 k.1 here) in
    let n = slice_get-contained table (field, t.0) term in
    passes-in (stands_in table s) ns n.0 (fitting.has n.0 t.0 n.1 t.2)
    (ap (term_stands s) n.1 ∙ any_at (length s.tokens) (has_text s field (Plain t.0)) k.0 k.1 here)
    )
