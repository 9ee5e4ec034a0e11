-- The document that some bytes are, as a value.
use Rattle.std.specs.Prelude.{◌≡◌, ℕ, ◌<◌, ◌≤◌, ◌&&◌, Bool, true, false, List, [], ◌∷◌, length, nat_lt, nat_le, Option, None, Some, refl}
use Rattle.std.specs.Bool.{Decides}
use Rattle.std.specs.Option.{option_and_then, option_map}
use Rattle.std.proofs.lemmas.Bool.{leb-true, le-leb}
use Rattle.std.proofs.lemmas.Bool.Decides.{Decides-and, Decides-ltb, Decides-by_and}
use Rattle.od_document.specs.declared.conllu.ConlluFault.{ConlluFault}
use Rattle.od_document.specs.declared.limits.TheConstants.{DOCUMENT_BYTES, SENTENCE_TOKENS, SENTENCE_EDGES}
use Rattle.od_document.specs.declared.doc.Doc.{Doc}
use Rattle.od_document.specs.declared.sentence.Sentence.{Sentence}
use Rattle.od_document.specs.declared.token.Token.{Token}
use Rattle.od_document.specs.declared.token.Edge.{Edge}
use Rattle.od_document.specs.Words.{WordLine}
use Rattle.od_document.specs.Faults.{doc_fault, sentences_in_bytes}
use Rattle.od_document.specs.Edges.{EndsWithin, AreDistinct, all_differ}
use Rattle.od_document.specs.Size.{size_in_parts}
use Rattle.od_document.specs.Reading.{tokens_and_edges}

-- a value that wants a test to pass, where the test passes
abbrev pub if_passes : {A : Type 0} (t : Bool) → (t ≡ true → A) → Option A
if_passes true value = Some (value refl)
if_passes false value = None

-- whether each edge lies between two of this many tokens
abbrev pub ends_within : ℕ → List Edge → Bool
ends_within count [] = true
ends_within count (e ∷ es) =
    (nat_lt e.governor count && nat_lt e.dependent count) && ends_within count es

-- whether tokens and edges keep what each sentence keeps
abbrev pub is_sentence : List Token × List Edge → Bool
is_sentence p =
    nat_lt 0 (length p.0) && nat_le (length p.0) SENTENCE_TOKENS &&
    nat_le (length p.1) SENTENCE_EDGES && ends_within (length p.0) p.1 && all_differ p.1

-- whether sentences, read from this many bytes, keep what each document keeps
abbrev pub is_document : ℕ → List Sentence → Bool
is_document size ss =
    nat_lt 0 (length ss) && nat_le size DOCUMENT_BYTES && nat_le (size_in_parts ss) size

-- what the tokens and edges of each sentence keep
abbrev pub KeepsSentence : List Token × List Edge → Type 0
KeepsSentence p =
    ((((0 < length p.0) × (length p.0 ≤ SENTENCE_TOKENS)) × (length p.1 ≤ SENTENCE_EDGES)) ×
    EndsWithin (length p.0) p.1) × AreDistinct p.1

-- what the sentences of each document keep, which was read from this many bytes
abbrev pub KeepsDocument : ℕ → List Sentence → Type 0
KeepsDocument size ss = ((0 < length ss) × (size ≤ DOCUMENT_BYTES)) × (size_in_parts ss ≤ size)

-- whether an edge lies between two of this many tokens
abbrev pub lies_within : ℕ → Edge → Bool
lies_within count e = nat_lt e.governor count && nat_lt e.dependent count

-- the tests say what each sentence and each document keeps
pub Decides-nat_le : (a b : ℕ) → Decides (nat_le a b) (a ≤ b)
Decides-nat_le a b = (leb-true a b, le-leb a b)

pub Decides-lies_within : (count : ℕ) (e : Edge)
    → Decides (lies_within count e) ((e.governor < count) × (e.dependent < count))
Decides-lies_within count e =
    Decides-and _ _ (Decides-ltb e.governor count) (Decides-ltb e.dependent count)

pub Decides-ends_within : (count : ℕ) (edges : List Edge)
    → Decides (ends_within count edges) (EndsWithin count edges)
Decides-ends_within count =
    Decides-by_and (lies_within count) (λ e. (e.governor < count) × (e.dependent < count))
    (ends_within count) (Decides-lies_within count) refl (λ e es. refl)

pub Decides-is_sentence : (p : List Token × List Edge) → Decides (is_sentence p) (KeepsSentence p)
Decides-is_sentence p =
    let few = Decides-nat_le (length p.0) SENTENCE_TOKENS in
    let tokens = Decides-and _ _ (Decides-ltb 0 (length p.0)) few in
    let counts = Decides-and _ _ tokens (Decides-nat_le (length p.1) SENTENCE_EDGES) in
    Decides-and _ _ (Decides-and _ _ counts (Decides-ends_within (length p.0) p.1)) (λ h. h, λ h. h)

pub Decides-is_document : (size : ℕ) (ss : List Sentence)
    → Decides (is_document size ss) (KeepsDocument size ss)
Decides-is_document size ss =
    let some = Decides-and _ _ (Decides-ltb 0 (length ss)) (Decides-nat_le size DOCUMENT_BYTES) in
    Decides-and _ _ some (Decides-nat_le (size_in_parts ss) size)

-- the sentence of these tokens and edges
abbrev pub sentence_with : (p : List Token × List Edge) → KeepsSentence p → Sentence
sentence_with p keeps = record {
  tokens = p.0;
  edges = p.1;
  some = keeps.0.0.0.0;
  few = keeps.0.0.0.1;
  few_edges = keeps.0.0.1;
  ends = keeps.0.1;
  distinct = keeps.1;
}

-- the sentence that word lines give
abbrev pub sentence_of : List WordLine → Option Sentence
sentence_of ws = if_passes (is_sentence (tokens_and_edges ws)) (λ h.
    sentence_with (tokens_and_edges ws) ((Decides-is_sentence (tokens_and_edges ws)).0 h))

-- the sentences that lists of word lines give, where each gives one
abbrev pub sentences_of : List (List WordLine) → Option (List Sentence)
sentences_of [] = Some []
sentences_of (ws ∷ wss) =
    option_and_then (λ s. option_map (λ ss. s ∷ ss) (sentences_of wss)) (sentence_of ws)

-- the document of this name and number of bytes with these sentences
abbrev pub doc_with : List ℕ → (size : ℕ) (ss : List Sentence) → KeepsDocument size ss → Doc
doc_with name size ss keeps = record {
  name = name;
  size = size;
  sentences = ss;
  some = keeps.0.0;
  small = keeps.0.1;
  parts = keeps.1;
}

-- the same, where the sentences keep what those of each document do
abbrev pub document_with : List ℕ → ℕ → List Sentence → Option Doc
document_with name size ss =
    if_passes (is_document size ss) (λ h. doc_with name size ss ((Decides-is_document size ss).0 h))

-- the document, where there is no fault
abbrev pub faultless : Option ConlluFault → Option Doc → Option Doc
faultless None doc = doc
faultless (Some f) doc = None

-- the document that the bytes are read as: none exactly where they have a fault
unfoldable pub document_of : List ℕ → List ℕ → Option Doc
document_of name bytes =
    faultless (doc_fault bytes)
    (option_and_then (document_with name (length bytes)) (sentences_of (sentences_in_bytes bytes)))
