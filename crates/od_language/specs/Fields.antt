-- The fields that a constraint may name, and the values that it may ask for.
use Rattle.std.specs.Prelude.{ℕ, List, Option, Some, None, if◌then◌else◌, nat_eq, codes, Bool}
use Rattle.std.specs.Cmp.Lexicographic.{pointwise}
use Rattle.od_pattern.specs.declared.pattern.Field.{Field}
use Rattle.od_pattern.specs.declared.pattern.Field.TheVariants.{Word, Norm, Lemma, Upos, Tag, Entity, Chunk, Incoming, Outgoing}
use Rattle.od_pattern.specs.declared.pattern.Value.{Value}
use Rattle.od_pattern.specs.declared.pattern.Value.TheVariants.{Plain}
use Rattle.od_pattern.specs.declared.pattern.Value.TheVariants as value
use Rattle.od_language.specs.declared.lexeme.LexKind.{LexKind}
use Rattle.od_language.specs.declared.lexeme.LexKind.TheVariants.{Quoted, Regex}
use Rattle.od_language.specs.declared.lexeme.LexKind.TheVariants as lexeme
use Rattle.od_text.specs.Folding.{fold_text}

-- the name of a field
abbrev pub field_name : Field → List ℕ
field_name Word = codes "word"
field_name Norm = codes "norm"
field_name Lemma = codes "lemma"
field_name Upos = codes "upos"
field_name Tag = codes "tag"
field_name Entity = codes "entity"
field_name Chunk = codes "chunk"
field_name Incoming = codes "incoming"
field_name Outgoing = codes "outgoing"

-- whether two texts have the same bytes
abbrev pub is_text : List ℕ → List ℕ → Bool
is_text = pointwise nat_eq

-- the field of a name
unfoldable pub field_named : List ℕ → Option Field
field_named name =
    if is_text name (field_name Word) then Some Word else
    if is_text name (field_name Norm) then Some Norm else
    if is_text name (field_name Lemma) then Some Lemma else
    if is_text name (field_name Upos) then Some Upos else
    if is_text name (field_name Tag) then Some Tag else
    if is_text name (field_name Entity) then Some Entity else
    if is_text name (field_name Chunk) then Some Chunk else
    if is_text name (field_name Incoming) then Some Incoming else
    if is_text name (field_name Outgoing) then Some Outgoing else
    None

-- the text that a field is compared with: norms are folded
abbrev pub compared_text : Field → List ℕ → List ℕ
compared_text Norm text = fold_text text
compared_text f text = text

-- the value that a lexeme stands for behind `field=`
pub data IsValue : Field → LexKind → Value → Type 0 where
  word : (f : Field) (text : List ℕ) → IsValue f (lexeme.Word text) (Plain (compared_text f text))
  quoted : (f : Field) (text : List ℕ) → IsValue f (Quoted text) (Plain (compared_text f text))
  regex : (f : Field) (text : List ℕ) → IsValue f (Regex text) (value.Regex text)
