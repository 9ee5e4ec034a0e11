-- Laws of reading documents.
use Rattle.std.specs.Prelude.{◌≡◌, ◌≢◌, ◌⊎◌, ◌↔◌, ℕ, List, None, Some}
use Rattle.std.specs.List.{AllPairs}
use Rattle.od_document.specs.declared.conllu.ConlluFault.{ConlluFault}
use Rattle.od_document.specs.declared.doc.Doc.{Doc}
use Rattle.od_document.specs.declared.token.Edge.{Edge}
use Rattle.od_document.specs.Edges.{AreDistinct}
use Rattle.od_document.specs.Faults.{doc_fault}
use Rattle.od_document.specs.Reading.{Reads}
use Rattle.od_document.specs.Building.{document_of}

-- the bytes are a document of this name, or have a first fault
abbrev pub IsOneOf : List ℕ → List ℕ → Type 0
IsOneOf name bytes =
    ((doc : Doc) × Reads name bytes doc) ⊎ ((f : ConlluFault) × (doc_fault bytes ≡ Some f))

-- any bytes are a document or have a first fault, and never both
abbrev pub IsDocumentOrFault : Type 0
IsDocumentOrFault = (name bytes : List ℕ) → IsOneOf name bytes ×
    ((doc : Doc) (f : ConlluFault) → Reads name bytes doc → doc_fault bytes ≡ Some f → ⊥)

-- some bytes are one document at most
abbrev pub ReadsOnce : Type 0
ReadsOnce =
    (name bytes : List ℕ) (one other : Doc)
    → Reads name bytes one → Reads name bytes other → one ≡ other

-- the document of some bytes is what they are read as, and none exactly where they have a fault
pub record BuildsDocuments : Type 0 where
  pub document : (name bytes : List ℕ) (doc : Doc)
      → (document_of name bytes ≡ Some doc) ↔ Reads name bytes doc
  pub none : (name bytes : List ℕ)
      → (document_of name bytes ≡ None) ↔ ((f : ConlluFault) × (doc_fault bytes ≡ Some f))

-- distinct edges: each is another one than every later one
abbrev pub DistinctDiffer : Type 0
DistinctDiffer = (edges : List Edge) → AreDistinct edges → AllPairs (λ e f. e ≢ f) edges
