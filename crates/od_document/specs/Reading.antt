-- Which document some bytes are.
use Rattle.std.specs.Prelude.{◌≡◌, ℕ, List, length, map, None}
use Rattle.od_document.specs.declared.doc.Doc.{Doc}
use Rattle.od_document.specs.declared.sentence.Sentence.{Sentence}
use Rattle.od_document.specs.declared.token.Token.{Token}
use Rattle.od_document.specs.declared.token.Edge.{Edge}
use Rattle.od_document.specs.Words.{WordLine, token_of, edges_from}
use Rattle.od_document.specs.Faults.{doc_fault, sentences_in_bytes}

-- the tokens and edges that the word lines of a sentence give
abbrev pub tokens_and_edges : List WordLine → List Token × List Edge
tokens_and_edges ws = (map token_of ws, edges_from 0 ws)

-- the tokens and edges of a sentence
abbrev pub shown : Sentence → List Token × List Edge
shown s = (s.tokens, s.edges)

-- the bytes are read as the document of this name
pub record Reads (name bytes : List ℕ) (doc : Doc) : Type 0 where
  pub faultless : doc_fault bytes ≡ None
  pub name_is : doc.name ≡ name
  pub size_is : doc.size ≡ length bytes
  pub sentences_are : map shown doc.sentences ≡ map tokens_and_edges (sentences_in_bytes bytes)
