-- How many parts a document has.
use Rattle.std.specs.Prelude.{ℕ, ◌+◌, List, [], ◌∷◌, length}
use Rattle.od_document.specs.declared.sentence.Sentence.{Sentence}

-- a sentence counts one, and one more for each token and each edge
abbrev pub sentence_parts : Sentence → ℕ
sentence_parts s = 1 + length s.tokens + length s.edges

-- the number of sentences, tokens and edges together
abbrev pub size_in_parts : List Sentence → ℕ
size_in_parts [] = 0
size_in_parts (s ∷ ss) = sentence_parts s + size_in_parts ss
