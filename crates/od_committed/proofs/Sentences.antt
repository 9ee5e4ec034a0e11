-- The sentences of a segment that stands for one document.
use Rattle.std.proofs.Common.{◌≡◌, ℕ, zero, suc, ◌+◌, ◌≤◌, List, [], ◌∷◌, ◌++◌, map, length, slice_get, Option, Some, None, option_map, refl, sym, ap, ◌∙◌}
use Rattle.std.specs.Prelude.{IsSomeAnd}
use Rattle.std.specs.List.{enumerate_from}
use Rattle.std.proofs.lemmas.Option.{slice_get_past}
use Rattle.od_document.specs.declared.doc.Doc.{Doc}
use Rattle.od_document.specs.declared.sentence.Sentence.{Sentence}
use Rattle.od_index.specs.Segments.{Stored, StandsFor}
use Rattle.od_index.specs.Sites.{Site, sentences_in}

-- numbered sentences are the sentences
sentences-of : (n : ℕ) (ss : List Sentence) → sentences_in (map (λ s. record { document = 0; number = s.0; words = s.1 }) (enumerate_from n ss) ++ []) ≡ ss
sentences-of n [] = refl
sentences-of n (s ∷ ss) = ap (λ rest. s ∷ rest) (sentences-of (n + 1) ss)

-- the words of the sentence at a place
words-at : (ss : List Site) (i : ℕ) → option_map (λ site. site.words) (slice_get ss i) ≡ slice_get (sentences_in ss) i
words-at [] i = refl
words-at (s ∷ ss) zero = refl
words-at (s ∷ ss) (suc i) = words-at ss i

module _ (doc : Doc) (s : Stored) (h : StandsFor (doc ∷ []) s) where
  -- the segment has the document's sentences
  pub sentences-are : sentences_in s.sites ≡ doc.sentences
  sentences-are = ap sentences_in h.sentences ∙ sentences-of 0 doc.sentences

  -- each at its place
  pub sentence-at : (i : ℕ) → option_map (λ site. site.words) (slice_get s.sites i) ≡ slice_get doc.sentences i
  sentence-at i = words-at s.sites i ∙ ap (λ (ss : List Sentence). slice_get ss i) sentences-are

  -- a sentence that is there
  pub is-there : (i : ℕ) (words : Sentence) → IsSomeAnd (slice_get s.sites i) (λ site. site.words ≡ words) → Some words ≡ slice_get doc.sentences i
  is-there i words h = told (slice_get s.sites i) h ∙ sentence-at i
    where
      told : (site : Option Site) → IsSomeAnd site (λ x. x.words ≡ words) → Some words ≡ option_map (λ x. x.words) site
      told None none = absurd none
      told (Some x) is = ap Some (sym is)

  -- no sentence stands behind the last one
  pub is-none : (i : ℕ) → length s.sites ≤ i → None ≡ slice_get doc.sentences i
  is-none i beyond = sym (ap (option_map (λ (x : Site). x.words)) (slice_get_past s.sites i beyond)) ∙ sentence-at i
