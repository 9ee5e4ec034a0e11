-- The word lines of a block, and the tokens and edges that they give.
use Rattle.std.specs.Prelude.{ℕ, ◌+◌, ◌-◌, ◌==◌, List, [], ◌∷◌, ◌++◌, if◌then◌else◌, slice_index, Option, None, Some, unwrap_or, codes}
use Rattle.std.specs.List.{filter_map}
use Rattle.od_document.specs.declared.conllu.ConlluKind.{ConlluKind}
use Rattle.od_document.specs.declared.conllu.ConlluKind.TheVariants.{Columns, BadId}
use Rattle.od_document.specs.declared.token.Token.{Token}
use Rattle.od_document.specs.declared.token.Edge.{Edge}
use Rattle.od_document.specs.Lines.{Line}
use Rattle.od_document.specs.Columns.{LineColumns, line_columns_of, columns_of, word_id, is_range_or_empty_node, governor_of, column_value, edge_label, misc_value}
use Rattle.od_text.specs.Folding.{fold_text}

-- what a line that is not empty holds: no word, a word with its ID, or a fault
pub data Content : Type 0 where
  no_word : Content
  word : ℕ → LineColumns → Content
  wrong : ConlluKind → Content

-- what the columns of a line hold, by the number that the ID is
abbrev pub content_by_id : LineColumns → Option ℕ → Content
content_by_id columns (Some id) = word id columns
content_by_id columns None = if is_range_or_empty_node columns.id then no_word else wrong BadId

-- what a line that is no comment holds, by its columns
abbrev pub content_by_columns : Option LineColumns → Content
content_by_columns None = wrong Columns
content_by_columns (Some columns) = content_by_id columns (word_id columns.id)

-- a comment, which begins with `#`, holds no word, nor does a range line or an empty node
abbrev pub content_of : List ℕ → Content
content_of text =
    if slice_index text 0 == 35 then no_word else
    content_by_columns (line_columns_of (columns_of text))

-- a line that holds a word: its number and its columns
pub record WordLine : Type 0 where
  pub line : ℕ
  pub columns : LineColumns

-- the word line that stands at this line number, where the line holds a word
abbrev pub word_line_at : ℕ → Content → Option WordLine
word_line_at n no_word = None
word_line_at n (word id columns) = Some (record { line = n; columns = columns })
word_line_at n (wrong kind) = None

-- the word lines among some lines
abbrev pub word_lines_of : List Line → List WordLine
word_lines_of lines = filter_map (λ l. word_line_at l.number (content_of l.text)) lines

-- the token that a word line gives
abbrev pub token_of : WordLine → Token
token_of w = record {
  word = w.columns.form;
  norm = fold_text w.columns.form;
  lemma = column_value w.columns.lemma;
  upos = column_value w.columns.upos;
  tag = column_value w.columns.xpos;
  entity = misc_value (codes "Entity") w.columns.misc;
  chunk = misc_value (codes "Chunk") w.columns.misc;
}

-- the number that HEAD names, 0 for none
abbrev pub head_number : WordLine → ℕ
head_number w = unwrap_or (governor_of w.columns.head) 0

-- the edges of the token at this place: a HEAD h from 1 makes one from token h - 1
abbrev pub edge_of : ℕ → WordLine → List Edge
edge_of place w =
    if head_number w == 0 then [] else
    record {
      governor = head_number w - 1;
      dependent = place;
      label = edge_label w.columns.deprel;
    } ∷ []

-- the edges of word lines, the first of which gives the token at this place
abbrev pub edges_from : ℕ → List WordLine → List Edge
edges_from place [] = []
edges_from place (w ∷ ws) = edge_of place w ++ edges_from (place + 1) ws
