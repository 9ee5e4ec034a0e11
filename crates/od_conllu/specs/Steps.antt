-- Reading a text on by one line.
use Rattle.std.specs.Prelude.{◌≡◌, ℕ, ◌<◌, ◌≤◌, List, [], ◌∷◌, ◌++◌, length, map, if◌then◌else◌, nat_lt, Option, None}
use Rattle.std.specs.List.{filter}
use Rattle.od_document.specs.declared.limits.TheConstants.{DOCUMENT_BYTES}
use Rattle.od_document.specs.declared.conllu.ConlluFault.{ConlluFault}
use Rattle.od_document.specs.declared.sentence.Sentence.{Sentence}
use Rattle.od_document.specs.Lines.{Line, is_blank}
use Rattle.od_document.specs.Words.{WordLine, word_lines_of, content_of}
use Rattle.od_document.specs.Faults.{content_fault, fault_at, heads_fault, blocks_fault, sentences_in, sentences_in_bytes, doc_fault}
use Rattle.od_document.specs.Reading.{shown, tokens_and_edges}

-- the sentence of a block with these word lines, if it has one
abbrev pub sentence_in : List WordLine → List (List WordLine)
sentence_in ws = filter (λ ws. nat_lt 0 (length ws)) (ws ∷ [])

-- the new sentences are the old ones and that of these word lines, if they have one
abbrev pub Adds : List Sentence → List WordLine → List Sentence → Type 0
Adds old ws new = map shown new ≡ map shown old ++ map tokens_and_edges (sentence_in ws)

-- what is wrong with a line behind these word lines of its sentence, which an empty line ends
abbrev pub step_fault : Line → List WordLine → Option ConlluFault
step_fault line ws =
    if is_blank line then heads_fault (length ws) ws else
    fault_at line.number (content_fault (length ws) (content_of line.text))

-- the word lines of its sentence after a line
abbrev pub words_after : Line → List WordLine → List WordLine
words_after line ws = if is_blank line then [] else ws ++ word_lines_of (line ∷ [])

-- the word lines of the sentence that a line ends
abbrev pub words_ended : Line → List WordLine → List WordLine
words_ended line ws = if is_blank line then ws else []

-- from the old sentences and word lines to the new ones by a line without a fault
pub record Steps (line : Line) (old : List Sentence) (ws : List WordLine)
    (new : List Sentence) (more : List WordLine) : Type 0 where
  pub faultless : step_fault line ws ≡ None
  pub sentences_are : Adds old (words_ended line ws) new
  pub words_are : more ≡ words_after line ws

-- the blocks were read to their end, without a fault
pub record AreRead (all : List (List Line)) (sentences : List Sentence) : Type 0 where
  pub faultless : blocks_fault all ≡ None
  pub sentences_are : map shown sentences ≡ map tokens_and_edges (sentences_in all)

-- bytes without a fault have these sentences
pub record AreSentences (bytes : List ℕ) (sentences : List Sentence) : Type 0 where
  pub faultless : doc_fault bytes ≡ None
  pub sentences_are : map shown sentences ≡ map tokens_and_edges (sentences_in_bytes bytes)
  pub some : 0 < length sentences
  pub small : length bytes ≤ DOCUMENT_BYTES
