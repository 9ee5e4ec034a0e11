-- Where terms and edges stand in numbered sentences.
use Rattle.std.specs.Prelude.{ℕ, Bool, ◌+◌, ◌*◌, List, map, filter, flat_map, bytes_eq}
use Rattle.std.specs.List.{enumerate_from, list_any}
use Rattle.std.specs.Ordering.{nat_cmp}
use Rattle.std.specs.Cmp.Lexicographic.{slice_cmp}
use Rattle.std.specs.List.Sorted.{IsStrictlySortedBy}
use Rattle.od_text.specs.Lists.{Each}
use Rattle.od_document.specs.declared.token.Token.{Token}
use Rattle.od_document.specs.declared.token.Edge.{Edge}
use Rattle.od_document.specs.declared.sentence.Sentence.{Sentence}
use Rattle.od_index.specs.Ascending.{IsAscendingOf, pair_cmp, ascending}
use Rattle.od_index.specs.Terms.{Term, terms_at}
use Rattle.od_index.specs.Tables.{same_term}

-- a posting: the number of a sentence, and what is said of that sentence
abbrev pub Posting : Type 0
Posting = ℕ × ℕ

-- a posting list ascends: by sentences, and within one by what is said of it
abbrev pub IsPostingList : List Posting → Type 0
IsPostingList list = IsStrictlySortedBy pair_cmp list

-- the same posting, with n sentences more before its own
abbrev pub shifted : ℕ → Posting → Posting
shifted n p = (n + p.0, p.1)

-- the term stands at a numbered token of a sentence
abbrev pub stands_at : Term → Sentence → ℕ × Token → Bool
stands_at term s token = list_any (same_term term) (terms_at s token)

-- the tokens of a numbered sentence at which the term stands
abbrev pub postings_in : Term → ℕ × Sentence → List Posting
postings_in term s =
    map (λ token. (s.0, token.0)) (filter (stands_at term s.1) (enumerate_from 0 s.1.tokens))

-- the posting list of a term: of all tokens of all sentences, in their order, those at which it stands
abbrev pub postings : Term → List Sentence → List Posting
postings term sentences = flat_map (postings_in term) (enumerate_from 0 sentences)

-- the posting lists of the terms of a table, by their numbers
abbrev pub posting_lists : List Term → List Sentence → List (List Posting)
posting_lists table sentences = map (λ term. postings term sentences) table

-- the ends of an edge as one number: 2^16 times the governor, and the dependent
abbrev pub ends_number : Edge → ℕ
ends_number edge = edge.governor * 65536 + edge.dependent

-- the edges of a numbered sentence that have the label, in the order of the text
abbrev pub edges_in : List ℕ → ℕ × Sentence → List Posting
edges_in label s =
    map (λ edge. (s.0, ends_number edge)) (filter (λ edge. bytes_eq edge.label label) s.1.edges)

-- of all edges of all sentences those that have the label
abbrev pub edges_with : List ℕ → List Sentence → List Posting
edges_with label sentences = flat_map (edges_in label) (enumerate_from 0 sentences)

-- the posting list of a label: these edges, ascending
abbrev pub IsEdgePosting : List ℕ → List Sentence → List Posting → Type 0
IsEdgePosting label sentences list = IsAscendingOf pair_cmp (edges_with label sentences) list

-- it is computed by putting one edge after another into its place
abbrev pub edge_postings : List ℕ → List Sentence → List Posting
edge_postings label sentences = ascending pair_cmp (edges_with label sentences)

-- the labels of all edges, with repeats
abbrev pub edge_labels : List Sentence → List (List ℕ)
edge_labels sentences = flat_map (λ s. map (λ edge. edge.label) s.edges) sentences

-- the different labels, ascending by their bytes
abbrev pub AreLabels : List Sentence → List (List ℕ) → Type 0
AreLabels sentences labels = IsAscendingOf (slice_cmp nat_cmp) (edge_labels sentences) labels

-- they are computed in the same way
abbrev pub labels_in : List Sentence → List (List ℕ)
labels_in sentences = ascending (slice_cmp nat_cmp) (edge_labels sentences)

-- for each of the different labels, ascending, its posting list
pub record AreEdgePostings (sentences : List Sentence) (lists : List (List ℕ × List Posting)) : Type 0 where
  pub labels : AreLabels sentences (map (λ l. l.0) lists)
  pub postings : Each (λ l. IsEdgePosting l.0 sentences l.1) lists
