-- Two documents that the same bytes are read as are one.
use Rattle.std.proofs.Common.{◌≡◌, ℕ, List, [], ◌∷◌, map, refl, sym, subst, ap, ◌∙◌}
use Rattle.std.specs.Coded.{le_prop}
use Rattle.std.proofs.Math.Bool.{Bool-set}
use Rattle.od_document.specs.declared.token.Token.{Token}
use Rattle.od_document.specs.declared.token.Edge.{Edge}
use Rattle.od_document.specs.declared.sentence.Sentence.{Sentence}
use Rattle.od_document.specs.declared.doc.Doc.{Doc}
use Rattle.od_document.specs.Reading.{shown, Reads}
use Rattle.od_document.specs.Building.{KeepsSentence, KeepsDocument, sentence_with, doc_with}

-- what a sentence keeps is kept in one way
KeepsSentence-prop : (p : List Token × List Edge) → IsProp (KeepsSentence p)
KeepsSentence-prop p = hlevel (le_prop, Bool-set)

sentence_with-same : (p q : List Token × List Edge) → p ≡ q → (k : KeepsSentence p) (l : KeepsSentence q) → sentence_with p k ≡ sentence_with q l
sentence_with-same p q e = subst (λ (r : List Token × List Edge). (k : KeepsSentence p) (l : KeepsSentence r) → sentence_with p k ≡ sentence_with r l) e (λ k l. ap (sentence_with p) (KeepsSentence-prop p k l))

abbrev kept : (s : Sentence) → KeepsSentence (shown s)
kept s = ((((s.some, s.few), s.few_edges), s.ends), s.distinct)

-- a sentence is its tokens and edges
pub shown-sentence : (s t : Sentence) → shown s ≡ shown t → s ≡ t
shown-sentence s t e = sentence_with-same (shown s) (shown t) e (kept s) (kept t)

pub shown-sentences : (xs ys : List Sentence) → map shown xs ≡ map shown ys → xs ≡ ys
shown-sentences [] [] e = refl
shown-sentences [] (y ∷ ys) e = absurd (cc)
shown-sentences (x ∷ xs) [] e = absurd (cc)
shown-sentences (x ∷ xs) (y ∷ ys) e =
    let first : shown x ≡ shown y = cc in
    let rest : map shown xs ≡ map shown ys = cc in
    let same = shown-sentence x y first in
    let more = shown-sentences xs ys rest in
    cc

-- the fields of a document
record DocParts : Type 0 where
  name : List ℕ
  size : ℕ
  sentences : List Sentence

-- what a document keeps is kept in one way
KeepsDocument-prop : (size : ℕ) (ss : List Sentence) → IsProp (KeepsDocument size ss)
KeepsDocument-prop size ss = hlevel le_prop

doc_with-same : (p q : DocParts) → p ≡ q → (k : KeepsDocument p.size p.sentences) (l : KeepsDocument q.size q.sentences)
    → doc_with p.name p.size p.sentences k ≡ doc_with q.name q.size q.sentences l
doc_with-same p q e = subst (λ (r : DocParts). (k : KeepsDocument p.size p.sentences) (l : KeepsDocument r.size r.sentences) → doc_with p.name p.size p.sentences k ≡ doc_with r.name r.size r.sentences l) e
    (λ k l. ap (doc_with p.name p.size p.sentences) (KeepsDocument-prop p.size p.sentences k l))

abbrev doc_parts : Doc → DocParts
doc_parts d = record { name = d.name; size = d.size; sentences = d.sentences }

abbrev doc_kept : (d : Doc) → KeepsDocument d.size d.sentences
doc_kept d = ((d.some, d.small), d.parts)

-- a document is its name, size and sentences
pub same_doc : (d e : Doc) → d.name ≡ e.name → d.size ≡ e.size → d.sentences ≡ e.sentences → d ≡ e
same_doc d e name size sentences = let parts : doc_parts d ≡ doc_parts e = cc in doc_with-same (doc_parts d) (doc_parts e) parts (doc_kept d) (doc_kept e)

-- some bytes are one document at most
pub reads_once : (name bytes : List ℕ) (d e : Doc) → Reads name bytes d → Reads name bytes e → d ≡ e
reads_once name bytes d e rd re = same_doc d e (rd.name_is ∙ sym re.name_is) (rd.size_is ∙ sym re.size_is) (shown-sentences d.sentences e.sentences (rd.sentences_are ∙ sym re.sentences_are))
