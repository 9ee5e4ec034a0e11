-- Segments, which stand for documents, and lists of segments that tile documents.
use Rattle.std.specs.Prelude.{◌≡◌, ℕ, ◌+◌, List, [], ◌∷◌, ◌++◌, length, map, take, drop, sum_by}
use Rattle.od_document.specs.declared.doc.Doc.{Doc}
use Rattle.od_index.specs.Postings.{Posting, postings, IsEdgePosting}
use Rattle.od_index.specs.Sites.{Site, sites, later, sentences_in}
use Rattle.od_index.specs.Terms.{Term, terms_of}
use Rattle.od_index.specs.Tables.{IsTableOf, table_of}

-- what is seen of a segment: so many documents, their sentences where they stand, and a table of its own
pub record Stored : Type 0 where
  pub documents : ℕ
  pub sites : List Site
  pub table : List Term

-- a segment stands for these documents
pub record StandsFor (docs : List Doc) (s : Stored) : Type 0 where
  pub count : s.documents ≡ length docs
  pub sentences : s.sites ≡ sites docs
  pub terms : IsTableOf (terms_of (sentences_in s.sites)) s.table

-- the bytes that documents were read from
abbrev pub bytes_of : List Doc → ℕ
bytes_of docs = sum_by (λ doc. doc.size) docs

-- the segment of documents
abbrev pub segment_of : List Doc → Stored
segment_of docs = record {
  documents = length docs;
  sites = sites docs;
  table = table_of (terms_of (sentences_in (sites docs)));
}

-- segments tile documents: each stands for the first of those that are left, and none is left in the end
abbrev pub Tiles : List Stored → List Doc → Type 0
Tiles [] docs = docs ≡ []
Tiles (s ∷ rest) docs = StandsFor (take s.documents docs) s × Tiles rest (drop s.documents docs)

-- the number of a segment's sentences
abbrev pub size : Stored → ℕ
size s = length s.sites

-- the sentences of all segments, the first of which stands behind n documents
abbrev pub sites_after : ℕ → List Stored → List Site
sites_after n [] = []
sites_after n (s ∷ rest) = map (later n) s.sites ++ sites_after (n + s.documents) rest

-- the posting list of a term in a segment, whose sentences are numbered from 0
abbrev pub posted : Term → Stored → List Posting
posted term s = postings term (sentences_in s.sites)

-- and that of a label
abbrev pub IsEdgePosted : List ℕ → Stored → List Posting → Type 0
IsEdgePosted label s list = IsEdgePosting label (sentences_in s.sites) list

-- two neighbouring segments as one, with a table: the second's documents stand behind the first's
abbrev pub merged : Stored → Stored → List Term → Stored
merged left right table = record {
  documents = left.documents + right.documents;
  sites = left.sites ++ map (later left.documents) right.sites;
  table = table;
}
