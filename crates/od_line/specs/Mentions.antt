-- The line of a printed mention: one object.
use Rattle.std.specs.Prelude.{ℕ, ◌-◌, List, [], ◌∷◌, map, take, drop, slice_get, codes, Option, Some, None}
use Rattle.std.specs.List.{join_with_byte}
use Rattle.serde_json.specs.Data.{Data, array}
use Rattle.serde_json.specs.View.{items_of}
use Rattle.od_document.specs.declared.token.Token.{Token}
use Rattle.od_document.specs.declared.sentence.Sentence.{Sentence}
use Rattle.od_document.specs.declared.doc.Doc.{Doc}
use Rattle.od_extraction.specs.declared.mention.Part.{Part}
use Rattle.od_extraction.specs.declared.mention.Mention.{Mention}
use Rattle.od_line.specs.Data.{count, word, word_or_null, object_of, line_of}

-- the words of a span, joined by one space
abbrev pub text_in : List Token → ℕ → ℕ → List ℕ
text_in tokens start end = join_with_byte 32 (map (λ token. token.word) (take (end - start) (drop start tokens)))

-- an argument, over the tokens of its sentence
abbrev pub part_data : List Token → Part → Data
part_data tokens part = object_of (
    (codes "name", word part.name) ∷ (codes "label", word_or_null part.label) ∷ (codes "start", count part.start) ∷
    (codes "end", count part.end) ∷ (codes "text", word (text_in tokens part.start part.end)) ∷ [])

-- a mention of a session, in the document of this name, over the tokens of its sentence
abbrev pub mention_data : List ℕ → List ℕ → List Token → Mention → Data
mention_data session document tokens m = object_of (
    (codes "session", word session) ∷ (codes "document", word document) ∷ (codes "sentence", count m.sentence) ∷
    (codes "rule", word m.rule) ∷ (codes "label", word m.label) ∷ (codes "start", count m.start) ∷ (codes "end", count m.end) ∷
    (codes "text", word (text_in tokens m.start m.end)) ∷ (codes "arguments", array (items_of (map (part_data tokens) m.parts))) ∷ [])

-- the tokens of a sentence, where it is there
abbrev pub tokens_in : Option Sentence → List Token
tokens_in None = []
tokens_in (Some sentence) = sentence.tokens

-- the line of a mention in its document, where it is there
abbrev pub line_in : List ℕ → Option Doc → Mention → List ℕ
line_in session None m = []
line_in session (Some doc) m = line_of (mention_data session doc.name (tokens_in (slice_get doc.sentences m.sentence)) m)

-- the line of a session's mention
unfoldable pub mention_line : List ℕ → List Doc → Mention → List ℕ
mention_line session docs m = line_in session (slice_get docs m.document) m
