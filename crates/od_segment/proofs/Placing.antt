-- The sentences of a document, placed one after another, and their terms.
use Rattle.std.proofs.Common.{◌≡◌, ℕ, suc, ◌+◌, ◌<◌, ◌≤◌, ◌^◌, List, [], ◌∷◌, ◌++◌, length, take, get_or, map, length-take-le, refl, sym, ap, ◌∙◌, subst, arith, append-nil}
use Rattle.std.specs.List.{enumerate_from}
use Rattle.std.proofs.lemmas.List.{take_more, map-append}
use Rattle.od_document.specs.declared.doc.Doc.{Doc}
use Rattle.od_document.specs.declared.sentence.Sentence.{Sentence}
use Rattle.od_document.specs.Size.{size_in_parts}
use Rattle.od_index.specs.Segments.{Stored, StandsFor}
use Rattle.od_index.specs.Sites.{Site, sentences_in}
use Rattle.od_index.specs.Tables.{IsTableOf}
use Rattle.od_index.specs.Sentences.{Indexed, HasTerms}
use Rattle.od_index.specs.Terms.{Term, terms_of, sentence_terms}
use Rattle.od_index.proofs.Members.{Each-from_in}
use Rattle.od_index.proofs.Tables.{table-serves}
use Rattle.od_posted.specs.Entries.{IsServedBy}
use Rattle.od_text.specs.Lists.{Each}
use Rattle.od_text.proofs.Lists.{Each-both, Each-from_map}
use Rattle.od_segment.specs.Placed.{numbered, AreServed}

-- a numbered sentence of the first document
abbrev pub first_site : ℕ × Sentence → Site
first_site s = record { document = 0; number = s.0; words = s.1 }

enumerate-snoc : {X : Type 0} (n : ℕ) (xs : List X) (x : X) → enumerate_from n (xs ++ x ∷ []) ≡ enumerate_from n xs ++ (n + length xs, x) ∷ []
enumerate-snoc n [] x = let e : n ≡ n + 0 = omega arith in ap (λ k. (k, x) ∷ []) e
enumerate-snoc n (y ∷ xs) x =
    let e : n + 1 + length xs ≡ n + suc (length xs) = omega arith in
    ap (λ r. (n, y) ∷ r) (enumerate-snoc (n + 1) xs x ∙ ap (λ k. enumerate_from (n + 1) xs ++ (k, x) ∷ []) e)

-- one sentence more
pub numbered-more : (ss : List Sentence) (i : ℕ) (s : Sentence) → i < length ss → s ≡ get_or ss i s
    → numbered (take (i + 1) ss) ≡ numbered (take i ss) ++ first_site (i, s) ∷ []
numbered-more ss i s h is =
    let long : 0 + length (take i ss) ≡ i = omega (arith, length-take-le i ss (omega (arith, h))) in
    ap numbered (take_more ss i s h ∙ ap (λ x. take i ss ++ x ∷ []) (sym is))
    ∙ ap (map first_site) (enumerate-snoc 0 (take i ss) s ∙ ap (λ k. enumerate_from 0 (take i ss) ++ (k, s) ∷ []) long)
    ∙ map-append first_site (enumerate_from 0 (take i ss)) ((i, s) ∷ [])

-- the sentences alone
pub sentences-numbered : (n : ℕ) (ss : List Sentence) → sentences_in (map first_site (enumerate_from n ss)) ≡ ss
sentences-numbered n [] = refl
sentences-numbered n (s ∷ ss) = ap (λ xs. s ∷ xs) (sentences-numbered (n + 1) ss)

-- sentences are among the parts
pub sentences-few : (ss : List Sentence) → length ss ≤ size_in_parts ss
sentences-few [] = omega arith
sentences-few (s ∷ ss) = omega (arith, sentences-few ss)

-- a document has fewer than 2 ^ 32 sentences
pub document-few : (doc : Doc) → length doc.sentences < 2 ^ 32
document-few doc =
    let small = doc.small in
    let parts = doc.parts in
    omega (arith, sentences-few doc.sentences, small, parts)

-- the sentences of a document with its table stand for it
pub stands : (doc : Doc) (s : Stored) → s.documents ≡ 1 → s.sites ≡ numbered doc.sentences → IsTableOf (terms_of doc.sentences) s.table → StandsFor (doc ∷ []) s
stands doc s count are t = record {
  count = count;
  sentences = are ∙ sym (append-nil (numbered doc.sentences));
  terms = subst (λ (ss : List Sentence). IsTableOf (terms_of ss) s.table) (sym (ap sentences_in are ∙ sentences-numbered 0 doc.sentences)) t;
}

-- a table of sentences has the terms of each
serves-all : (table : List Term) (ss : List Sentence) → IsTableOf (terms_of ss) table → Each (λ (s : Sentence). HasTerms table (sentence_terms s)) ss
serves-all table ss is = Each-from_in (λ (s : Sentence). HasTerms table (sentence_terms s)) ss (λ s c. table-serves ss s table is c)

served-from : (table : List Term) (n : ℕ) (ss : List Sentence) → Each (λ (s : Sentence). HasTerms table (sentence_terms s)) ss → AreServed table (map first_site (enumerate_from n ss))
served-from table n [] has = tt
served-from table n (s ∷ ss) has = (has.0, served-from table (n + 1) ss has.1)

pub numbered-served : (table : List Term) (ss : List Sentence) → IsTableOf (terms_of ss) table → AreServed table (numbered ss)
numbered-served table ss is = served-from table 0 ss (serves-all table ss is)

-- and serves what are numbers of it
pub all-served : (table : List Term) (ss : List Sentence) (xs : List Indexed) → IsTableOf (terms_of ss) table → Each (λ (x : Indexed). x.table ≡ table) xs
    → map (λ (x : Indexed). x.sentence) xs ≡ ss → Each (IsServedBy table) xs
all-served table ss xs is over are =
    Each-both (λ (x : Indexed). x.table ≡ table) (λ (x : Indexed). HasTerms table (sentence_terms x.sentence)) (IsServedBy table) (λ x o h. record { over = o; has = h }) xs over
    (Each-from_map (λ (s : Sentence). HasTerms table (sentence_terms s)) (λ (x : Indexed). x.sentence) xs
    (subst (λ (ys : List Sentence). Each (λ (s : Sentence). HasTerms table (sentence_terms s)) ys) (sym are) (serves-all table ss is)))

-- a document's parts are fewer than 2 ^ 32
pub document-small : (doc : Doc) → size_in_parts doc.sentences < 2 ^ 32
document-small doc =
    let small = doc.small in
    let parts = doc.parts in
    omega (arith, small, parts)
