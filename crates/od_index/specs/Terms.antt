-- Which text stands in which field.
use Rattle.std.specs.Prelude.{ℕ, List, [], ◌∷◌, ◌++◌, ◌==◌, map, filter, flat_map, Option, Some, None}
use Rattle.od_document.specs.declared.token.Token.{Token}
use Rattle.od_document.specs.declared.token.Edge.{Edge}
use Rattle.od_document.specs.declared.sentence.Sentence.{Sentence}
use Rattle.od_document.specs.declared.doc.Doc.{Doc}
use Rattle.od_pattern.specs.declared.pattern.Field.{Field}
use Rattle.od_pattern.specs.declared.pattern.Field.TheVariants.{Word, Norm, Lemma, Upos, Tag, Entity, Chunk, Incoming, Outgoing}

-- a text in a field
abbrev pub Term : Type 0
Term = Field × List ℕ

-- the text that a token itself has in a field; labels of edges are none of its own
abbrev pub text_in : Field → Token → Option (List ℕ)
text_in Word token = Some token.word
text_in Norm token = Some token.norm
text_in Lemma token = token.lemma
text_in Upos token = token.upos
text_in Tag token = token.tag
text_in Entity token = token.entity
text_in Chunk token = token.chunk
text_in Incoming token = None
text_in Outgoing token = None

-- the term of a field, where it has a text
abbrev pub term_in : Field → Option (List ℕ) → List Term
term_in field None = []
term_in field (Some text) = (field, text) ∷ []

-- the fields in which a token has a text of its own
abbrev pub token_fields : List Field
token_fields = Word ∷ Norm ∷ Lemma ∷ Upos ∷ Tag ∷ Entity ∷ Chunk ∷ []

-- the terms of a token itself
abbrev pub token_terms : Token → List Term
token_terms token = flat_map (λ field. term_in field (text_in field token)) token_fields

-- the terms of an edge: its label comes in at the one end and goes out at the other
abbrev pub edge_terms : Edge → List Term
edge_terms edge = (Incoming, edge.label) ∷ (Outgoing, edge.label) ∷ []

-- the terms of a sentence: those of its tokens and those of its edges, with repeats
abbrev pub sentence_terms : Sentence → List Term
sentence_terms s = flat_map token_terms s.tokens ++ flat_map edge_terms s.edges

-- the terms of sentences
abbrev pub terms_of : List Sentence → List Term
terms_of sentences = flat_map sentence_terms sentences

-- the terms of a document
abbrev pub doc_terms : Doc → List Term
doc_terms doc = terms_of doc.sentences

-- the terms at a numbered token: its own, and the labels of the edges that end and that begin there
abbrev pub terms_at : Sentence → ℕ × Token → List Term
terms_at s token =
    token_terms token.1
    ++ (map (λ edge. (Incoming, edge.label)) (filter (λ edge. edge.dependent == token.0) s.edges)
    ++ map (λ edge. (Outgoing, edge.label)) (filter (λ edge. edge.governor == token.0) s.edges))
