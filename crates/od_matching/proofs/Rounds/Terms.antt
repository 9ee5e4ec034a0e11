-- The terms at a token and the texts that constraints look at.
use Rattle.std.proofs.Common.{◌≡◌, ℕ, List, [], ◌∷◌, ◌++◌, map, filter, flat_map, Option, Some, None, Bool, true, false, ◌&&◌, ◌||◌, refl, sym, ap, ap₂, ◌∙◌, slice_get, bytes_eq}
use Rattle.std.specs.Prelude.{◌==◌}
use Rattle.std.specs.List.{list_any}
use Rattle.std.proofs.lemmas.List.Folds.{list_any-append}
use Rattle.od_document.specs.declared.token.Token.{Token}
use Rattle.od_document.specs.declared.token.Edge.{Edge}
use Rattle.od_document.specs.declared.sentence.Sentence.{Sentence}
use Rattle.od_index.specs.Terms.{Term, text_in, term_in, token_fields, token_terms, terms_at}
use Rattle.od_index.specs.Tables.{field_place, same_term}
use Rattle.od_asked.specs.Holds.{one_text, texts_of, texts_there, texts_at, labels_of}
use Rattle.od_matching.specs.Rounds.Laws.{TermsAreTexts}
use Rattle.od_pattern.specs.declared.pattern.Field.{Field}
use Rattle.od_pattern.specs.declared.pattern.Field.TheVariants.{Word, Norm, Lemma, Upos, Tag, Entity, Chunk, Incoming, Outgoing}

and-none : (b : Bool) → false ≡ (b && false)
and-none true = refl
and-none false = refl

or-none : (b : Bool) → (b || false) ≡ b
or-none true = refl
or-none false = refl

and-or : (b x y : Bool) → ((b && x) || (b && y)) ≡ (b && (x || y))
and-or true x y = refl
and-or false x y = refl

-- ## Of lists

any-flat_map : {X Y : Type 0} (p : Y → Bool) (f : X → List Y) (xs : List X) → list_any p (flat_map f xs) ≡ list_any (λ x. list_any p (f x)) xs
any-flat_map p f [] = refl
any-flat_map p f (x ∷ xs) = list_any-append p (f x) (flat_map f xs) ∙ ap (λ b. list_any p (f x) || b) (any-flat_map p f xs)

any-same : {X : Type 0} (p q : X → Bool) → ((x : X) → p x ≡ q x) → (xs : List X) → list_any p xs ≡ list_any q xs
any-same p q same [] = refl
any-same p q same (x ∷ xs) = ap₂ (λ a b. a || b) (same x) (any-same p q same xs)

module _ (field : Field) (text : List ℕ) where
  abbrev is : Term → Bool
  is term = same_term (field, text) term

  abbrev equals : List ℕ → Bool
  equals other = bytes_eq text other

  -- in one field
  any-in : (g : Field) (o : Option (List ℕ)) → list_any is (term_in g o) ≡ (field_place field == field_place g && list_any equals (one_text o))
  any-in g None = and-none (field_place field == field_place g)
  any-in g (Some other) = or-none (field_place field == field_place g && equals other) ∙ ap (λ b. field_place field == field_place g && b) (sym (or-none (equals other)))

  -- of a token itself
  any-own : (token : Token) → list_any is (token_terms token) ≡ list_any (λ g. field_place field == field_place g && list_any equals (one_text (text_in g token))) token_fields
  any-own token =
      any-flat_map is (λ g. term_in g (text_in g token)) token_fields
      ∙ any-same (λ g. list_any is (term_in g (text_in g token))) (λ g. field_place field == field_place g && list_any equals (one_text (text_in g token))) (λ g. any-in g (text_in g token)) token_fields

  -- of edges
  any-labels : (g : Field) (edges : List Edge) → list_any is (map (λ (edge : Edge). (g, edge.label)) edges) ≡ (field_place field == field_place g && list_any equals (labels_of edges))
  any-labels g [] = and-none (field_place field == field_place g)
  any-labels g (e ∷ edges) =
      ap (λ b. (field_place field == field_place g && equals e.label) || b) (any-labels g edges) ∙ and-or (field_place field == field_place g) (equals e.label) (list_any equals (labels_of edges))

  abbrev ends : Sentence → ℕ → List Edge
  ends s k = filter (λ (edge : Edge). edge.dependent == k) s.edges

  abbrev begins : Sentence → ℕ → List Edge
  begins s k = filter (λ (edge : Edge). edge.governor == k) s.edges

  -- of all three
  any-at : (s : Sentence) (k : ℕ) (token : Token) → list_any is (terms_at s (k, token)) ≡
      (list_any (λ g. field_place field == field_place g && list_any equals (one_text (text_in g token))) token_fields
      || ((field_place field == 7 && list_any equals (labels_of (ends s k))) || (field_place field == 8 && list_any equals (labels_of (begins s k)))))
  any-at s k token =
      let incoming = map (λ (edge : Edge). (Incoming, edge.label)) (ends s k) in
      let outgoing = map (λ (edge : Edge). (Outgoing, edge.label)) (begins s k) in
      list_any-append is (token_terms token) (incoming ++ outgoing)
      ∙ ap₂ (λ a b. a || b) (any-own token) (list_any-append is incoming outgoing ∙ ap₂ (λ a b. a || b) (any-labels Incoming (ends s k)) (any-labels Outgoing (begins s k)))

-- the texts at a place where there is this token
here : (text : List ℕ) (s : Sentence) (k : ℕ) (token : Token) (field : Field) → slice_get s.tokens k ≡ Some token
    → list_any (bytes_eq text) (texts_of s k token field) ≡ list_any (bytes_eq text) (texts_at s k field)
here text s k token field e = ap (λ t. list_any (bytes_eq text) (texts_there s k field t)) (sym e)

pub terms-are-texts : TermsAreTexts
terms-are-texts s k token Word text e = any-at Word text s k token ∙ or-none _ ∙ or-none _ ∙ here text s k token Word e
terms-are-texts s k token Norm text e = any-at Norm text s k token ∙ or-none _ ∙ or-none _ ∙ here text s k token Norm e
terms-are-texts s k token Lemma text e = any-at Lemma text s k token ∙ or-none _ ∙ or-none _ ∙ here text s k token Lemma e
terms-are-texts s k token Upos text e = any-at Upos text s k token ∙ or-none _ ∙ or-none _ ∙ here text s k token Upos e
terms-are-texts s k token Tag text e = any-at Tag text s k token ∙ or-none _ ∙ or-none _ ∙ here text s k token Tag e
terms-are-texts s k token Entity text e = any-at Entity text s k token ∙ or-none _ ∙ or-none _ ∙ here text s k token Entity e
terms-are-texts s k token Chunk text e = any-at Chunk text s k token ∙ or-none _ ∙ or-none _ ∙ here text s k token Chunk e
terms-are-texts s k token Incoming text e = any-at Incoming text s k token ∙ or-none _ ∙ here text s k token Incoming e
terms-are-texts s k token Outgoing text e = any-at Outgoing text s k token ∙ here text s k token Outgoing e
