-- The first fault of a document, in the order of testing.
use Rattle.std.specs.Prelude.{ℕ, ◌+◌, ◌==◌, not, List, [], ◌∷◌, length, map, take, if◌then◌else◌, nat_lt, nat_le, Option, None, Some}
use Rattle.std.specs.Option.{option_or, option_map, is_none}
use Rattle.std.specs.List.{filter, find, count_by}
use Rattle.std.specs.Str.Lossy.{utf8_valid_len}
use Rattle.od_document.specs.declared.conllu.ConlluKind.{ConlluKind}
use Rattle.od_document.specs.declared.conllu.ConlluKind.TheVariants.{TooLong, NotUtf8, IdOrder, TooManyTokens, EmptyForm, BadHead, HeadRange, Empty}
use Rattle.od_document.specs.declared.conllu.ConlluFault.{ConlluFault}
use Rattle.od_document.specs.declared.limits.TheConstants.{DOCUMENT_BYTES, SENTENCE_TOKENS}
use Rattle.od_document.specs.Lines.{Line, without_mark, blocks_of}
use Rattle.od_document.specs.Columns.{LineColumns, governor_of}
use Rattle.od_document.specs.Words.{Content, no_word, word, wrong, content_of, WordLine, word_lines_of, head_number}

-- a kind of fault at this line number
abbrev pub fault_at : ℕ → Option ConlluKind → Option ConlluFault
fault_at n kind = option_map (λ k. record { line = n; kind = k }) kind

-- of a word line with k words before it in its sentence
abbrev pub word_fault : ℕ → ℕ → LineColumns → Option ConlluKind
word_fault k id columns =
    if not (id == k + 1) then Some IdOrder else
    (if nat_le SENTENCE_TOKENS k then Some TooManyTokens else
    (if length columns.form == 0 then Some EmptyForm else
    (if is_none (governor_of columns.head) then Some BadHead else None)))

-- of a line with k words before it in its sentence
abbrev pub content_fault : ℕ → Content → Option ConlluKind
content_fault k no_word = None
content_fault k (word id columns) = word_fault k id columns
content_fault k (wrong kind) = Some kind

-- of these lines, line by line, with k words before them in their sentence
abbrev pub lines_fault : ℕ → List Line → Option ConlluFault
lines_fault k [] = None
lines_fault k (l ∷ ls) =
    option_or (fault_at l.number (content_fault k (content_of l.text)))
    (lines_fault (k + length (word_lines_of (l ∷ []))) ls)

-- of the heads: the first word line whose head is greater than the number of words
abbrev pub heads_fault : ℕ → List WordLine → Option ConlluFault
heads_fault count ws =
    option_map (λ w. record { line = w.line; kind = HeadRange })
    (find (λ w. nat_lt count (head_number w)) ws)

-- of a block: first its lines, then its heads
abbrev pub block_fault : List Line → Option ConlluFault
block_fault ls =
    option_or (lines_fault 0 ls) (heads_fault (length (word_lines_of ls)) (word_lines_of ls))

-- of blocks, block by block
abbrev pub blocks_fault : List (List Line) → Option ConlluFault
blocks_fault [] = None
blocks_fault (b ∷ bs) = option_or (block_fault b) (blocks_fault bs)

-- the word lines of each block that has one: a sentence each
abbrev pub sentences_in : List (List Line) → List (List WordLine)
sentences_in blocks = filter (λ ws. nat_lt 0 (length ws)) (map word_lines_of blocks)

-- the word lines of each sentence of some bytes
abbrev pub sentences_in_bytes : List ℕ → List (List WordLine)
sentences_in_bytes bytes = sentences_in (blocks_of (without_mark bytes))

-- that there is no sentence
abbrev pub empty_fault : List (List WordLine) → Option ConlluFault
empty_fault [] = Some (record { line = 1; kind = Empty })
empty_fault (s ∷ ss) = None

-- of a text: first its blocks, and at last that there is no sentence
abbrev pub text_fault : List ℕ → Option ConlluFault
text_fault text =
    option_or (blocks_fault (blocks_of text)) (empty_fault (sentences_in (blocks_of text)))

-- the line of the first byte that is not UTF-8
abbrev pub bad_byte_line : List ℕ → ℕ
bad_byte_line text = 1 + count_by (λ b. b == 10) (take (utf8_valid_len text) text)

-- the first fault of some bytes, where they have one
abbrev pub doc_fault : List ℕ → Option ConlluFault
doc_fault bytes =
    if nat_lt DOCUMENT_BYTES (length bytes) then Some (record { line = 1; kind = TooLong }) else
    (if nat_lt (utf8_valid_len (without_mark bytes)) (length (without_mark bytes))
    then Some (record { line = bad_byte_line (without_mark bytes); kind = NotUtf8 }) else
    text_fault (without_mark bytes))
