-- The laws of tables, postings and segments.
use Rattle.std.specs.Prelude.{◌≡◌, ◌≤◌, ◌*◌, ℕ, List, [], ◌∷◌, ◌++◌, Contains, length, map, take, sum_by, Some}
use Rattle.od_document.specs.declared.doc.Doc.{Doc}
use Rattle.od_document.specs.declared.sentence.Sentence.{Sentence}
use Rattle.od_pattern.specs.declared.pattern.Field.{Field}
use Rattle.od_index.specs.Sites.{sites, later}
use Rattle.od_index.specs.Terms.{Term, terms_of, sentence_terms}
use Rattle.od_index.specs.Tables.{IsTableOf, table_of, IsNumber}
use Rattle.od_index.specs.Sentences.{HasTerms}
use Rattle.od_index.specs.Postings.{Posting, IsPostingList, shifted, postings, edges_with, IsEdgePosting, edge_postings, AreLabels, labels_in, AreEdgePostings}
use Rattle.od_index.specs.Segments.{Stored, StandsFor, bytes_of, segment_of, Tiles, size, sites_after, merged, posted, IsEdgePosted}
use Rattle.od_index.specs.Views.{Seen, sites_seen, places, site_at}

-- some terms have one table at most
abbrev pub OneTable : Type 0
OneTable = (terms a b : List Term) → IsTableOf terms a → IsTableOf terms b → a ≡ b

-- and one that is computed
abbrev pub TableIsComputed : Type 0
TableIsComputed = (terms : List Term) → IsTableOf terms (table_of terms)

-- each of the terms has a number in the table
abbrev pub EachIsNumbered : Type 0
EachIsNumbered =
    (terms table : List Term) (field : Field) (text : List ℕ) → IsTableOf terms table
    → Contains terms (field, text) → (n : ℕ) × IsNumber table field text n

-- and no more than one
abbrev pub OneNumber : Type 0
OneNumber =
    (terms table : List Term) (field : Field) (text : List ℕ) (m n : ℕ) → IsTableOf terms table
    → IsNumber table field text m → IsNumber table field text n → m ≡ n

-- a table has at most as many terms as there are
abbrev pub TableIsShort : Type 0
TableIsShort = (terms table : List Term) → IsTableOf terms table → length table ≤ length terms

-- tables of some terms and of others, joined, are tabled as the terms are
abbrev pub TablesJoin : Type 0
TablesJoin =
    (a b left right table : List Term) → IsTableOf a left → IsTableOf b right
    → IsTableOf (left ++ right) table → IsTableOf (a ++ b) table

-- a table of sentences has the terms of each of them
abbrev pub TableServes : Type 0
TableServes =
    (sentences : List Sentence) (s : Sentence) (table : List Term)
    → IsTableOf (terms_of sentences) table → Contains sentences s
    → HasTerms table (sentence_terms s)

-- the sentences of documents and of others after them: those of the others stand as many documents later
abbrev pub SitesJoin : Type 0
SitesJoin =
    (docs more : List Doc)
    → sites (docs ++ more) ≡ sites docs ++ map (later (length docs)) (sites more)

-- a posting list over sentences and others after them: those of the others come as many sentences later
abbrev pub PostingsJoin : Type 0
PostingsJoin =
    (term : Term) (a b : List Sentence)
    → postings term (a ++ b) ≡ postings term a ++ map (shifted (length a)) (postings term b)

-- the same of edges
abbrev pub EdgesJoin : Type 0
EdgesJoin =
    (label : List ℕ) (a b : List Sentence)
    → edges_with label (a ++ b)
    ≡ edges_with label a ++ map (shifted (length a)) (edges_with label b)

-- the posting list of a term ascends
abbrev pub PostingsAscend : Type 0
PostingsAscend = (term : Term) (sentences : List Sentence) → IsPostingList (postings term sentences)

-- the posting list of a label over sentences and others after them is made of those of both
abbrev pub EdgePostingsJoin : Type 0
EdgePostingsJoin =
    (label : List ℕ) (a b : List Sentence) (left right : List Posting) → IsEdgePosting label a left
    → IsEdgePosting label b right
    → IsEdgePosting label (a ++ b) (left ++ map (shifted (length a)) right)

-- a label has one posting list at most
abbrev pub OneEdgePosting : Type 0
OneEdgePosting =
    (label : List ℕ) (sentences : List Sentence) (a b : List Posting)
    → IsEdgePosting label sentences a → IsEdgePosting label sentences b → a ≡ b

-- and one that is computed
abbrev pub EdgePostingIsComputed : Type 0
EdgePostingIsComputed =
    (label : List ℕ) (sentences : List Sentence)
    → IsEdgePosting label sentences (edge_postings label sentences)

-- sentences have one list of labels at most
abbrev pub OneListOfLabels : Type 0
OneListOfLabels =
    (sentences : List Sentence) (a b : List (List ℕ)) → AreLabels sentences a
    → AreLabels sentences b → a ≡ b

-- and one that is computed
abbrev pub LabelsAreComputed : Type 0
LabelsAreComputed = (sentences : List Sentence) → AreLabels sentences (labels_in sentences)

-- sentences have one list of labels with their posting lists at most
abbrev pub OneListOfEdges : Type 0
OneListOfEdges =
    (sentences : List Sentence) (a b : List (List ℕ × List Posting)) → AreEdgePostings sentences a
    → AreEdgePostings sentences b → a ≡ b

-- documents have one segment at most
abbrev pub OneSegment : Type 0
OneSegment = (docs : List Doc) (a b : Stored) → StandsFor docs a → StandsFor docs b → a ≡ b

-- and one that is computed
abbrev pub SegmentIsComputed : Type 0
SegmentIsComputed = (docs : List Doc) → StandsFor docs (segment_of docs)

-- for each byte of its documents a segment has at most one document, one sentence and 7 terms
abbrev pub SegmentIsSmall : Type 0
SegmentIsSmall =
    (docs : List Doc) (s : Stored) → StandsFor docs s
    → (s.documents ≤ bytes_of docs) × (size s ≤ bytes_of docs) × (length s.table ≤ 7 * bytes_of docs)

-- where segments tile documents, their sentences are those of the documents, each once and in order
abbrev pub TilesHaveAll : Type 0
TilesHaveAll =
    (segments : List Stored) (docs : List Doc) → Tiles segments docs
    → sites_after 0 segments ≡ sites docs

-- their sizes are, together, the number of sentences
abbrev pub SizesSum : Type 0
SizesSum =
    (segments : List Stored) (docs : List Doc) → Tiles segments docs
    → sum_by size segments ≡ sum_by (λ doc. length doc.sentences) docs

-- what is seen of them are the sentences of the first documents
abbrev pub FirstAreSeen : Type 0
FirstAreSeen =
    (v : Seen) (docs : List Doc) → Tiles v.segments docs
    → sites_seen v ≡ sites (take v.documents docs)

-- at each place of segments stands one of their sentences, and at all places together stand all
abbrev pub EachPlaceHasSite : Type 0
EachPlaceHasSite =
    (segments : List Stored) → map (site_at segments) (places segments) ≡ map Some (sites_after 0 segments)

-- a segment more tiles with its documents behind the others
abbrev pub TilesGrow : Type 0
TilesGrow =
    (segments : List Stored) (docs more : List Doc) (s : Stored) → Tiles segments docs
    → StandsFor more s → Tiles (segments ++ s ∷ []) (docs ++ more)

-- two segments merged stand for the documents of both
abbrev pub MergedStands : Type 0
MergedStands =
    (docs more : List Doc) (left right : Stored) (table : List Term) → StandsFor docs left
    → StandsFor more right → IsTableOf (left.table ++ right.table) table
    → StandsFor (docs ++ more) (merged left right table)

-- neighbours that are merged tile the same documents
abbrev pub TilesMerge : Type 0
TilesMerge =
    (before behind : List Stored) (left right : Stored) (table : List Term) (docs : List Doc)
    → Tiles (before ++ left ∷ right ∷ behind) docs → IsTableOf (left.table ++ right.table) table
    → Tiles (before ++ merged left right table ∷ behind) docs

-- the posting lists of two segments merged: those of the second come as many sentences later
abbrev pub PostingsMerge : Type 0
PostingsMerge =
    (term : Term) (left right : Stored) (table : List Term)
    → posted term (merged left right table)
    ≡ posted term left ++ map (shifted (size left)) (posted term right)

-- the same of edges
abbrev pub EdgePostingsMerge : Type 0
EdgePostingsMerge =
    (label : List ℕ) (left right : Stored) (table : List Term) (a b : List Posting)
    → IsEdgePosted label left a → IsEdgePosted label right b
    → IsEdgePosted label (merged left right table) (a ++ map (shifted (size left)) b)
