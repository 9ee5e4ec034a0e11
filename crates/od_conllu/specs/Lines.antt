-- What a line holds, and what the end of a sentence gives.
use Rattle.std.specs.Prelude.{◌≡◌, ◌<◌, List, [], length, Option, None, Some}
use Rattle.od_document.specs.declared.conllu.ConlluFault.{ConlluFault}
use Rattle.od_document.specs.declared.sentence.Sentence.{Sentence}
use Rattle.od_document.specs.Words as words
use Rattle.od_document.specs.Reading.{shown, tokens_and_edges}
use Rattle.od_conllu.specs.declared.fault.ReadDocFault.{ReadDocFault}
use Rattle.od_conllu.specs.declared.fault.ReadDocFault.TheVariants.{Bad, NoMemory}
use Rattle.od_conllu.specs.declared.content.Content.{Content}
use Rattle.od_conllu.specs.declared.content.Content.TheVariants as line
use Rattle.od_conllu.specs.declared.word_line.WordLine.{WordLine}
use Rattle.od_conllu.specs.Seen.{columns_seen}

-- what a line holds, as the definitions see it
abbrev pub content_seen : Content → words.Content
content_seen line.NoWord = words.no_word
content_seen (line.Word id columns) = words.word id (columns_seen columns)
content_seen (line.Wrong kind) = words.wrong kind

-- a word line, as the definitions see it
abbrev pub word_seen : WordLine → words.WordLine
word_seen word = record { line = word.line; columns = columns_seen word.columns }

-- the sentence of these word lines, where there is one
abbrev pub Ends : List words.WordLine → Option Sentence → Type 0
Ends ws None = ws ≡ []
Ends ws (Some s) = (0 < length ws) × (shown s ≡ tokens_and_edges ws)

-- P of the fault of a document, where there is one
abbrev pub IfBad : ReadDocFault → (ConlluFault → Type 0) → Type 0
IfBad (Bad f) P = P f
IfBad NoMemory P = Unit {0}
