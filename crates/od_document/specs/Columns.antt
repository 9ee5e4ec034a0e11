-- The ten columns of a line, and what the text of a column says.
use Rattle.std.specs.Prelude.{◌≡◌, ◌↔◌, ◌<◌, decimal, ℕ, ◌+◌, ◌-◌, ◌*◌, ◌==◌, ◌&&◌, ◌||◌, Bool, false, List, [], ◌∷◌, length, if◌then◌else◌, nat_lt, nat_le, slice_index, Option, None, Some}
use Rattle.std.specs.Option.{option_or, is_some}
use Rattle.std.specs.Str.{bytes_eq}
use Rattle.std.specs.List.{slice_split}
use Rattle.od_document.specs.declared.limits.TheConstants.{NODE_NUMBERS}
use Rattle.od_text.specs.Cuts.{split_once}

-- the columns of a line that are read: all but FEATS and DEPS
pub record LineColumns : Type 0 where
  pub id : List ℕ
  pub form : List ℕ
  pub lemma : List ℕ
  pub upos : List ℕ
  pub xpos : List ℕ
  pub head : List ℕ
  pub deprel : List ℕ
  pub misc : List ℕ

-- the parts of a line between its tabs
abbrev pub columns_of : List ℕ → List (List ℕ)
columns_of text = slice_split (λ b. b == 9) text

-- the columns of a line that has ten of them, no fewer and no more
abbrev pub line_columns_of : List (List ℕ) → Option LineColumns
line_columns_of (id ∷ form ∷ lemma ∷ upos ∷ xpos ∷ feats ∷ head ∷ deprel ∷ deps ∷ misc ∷ []) =
    Some (record {
      id = id;
      form = form;
      lemma = lemma;
      upos = upos;
      xpos = xpos;
      head = head;
      deprel = deprel;
      misc = misc;
    })
line_columns_of columns = None

-- the number whose digits are those of n and then these, where it is not too great
abbrev pub digits_after : ℕ → List ℕ → Option ℕ
digits_after n [] = Some n
digits_after n (c ∷ text) =
    if nat_le 48 c && nat_le c 57 && nat_lt (n * 10 + (c - 48)) NODE_NUMBERS
    then digits_after (n * 10 + (c - 48)) text else None

-- a number of a node, as ID and HEAD have it: 1 to 6 digits without a leading zero, or 0
abbrev pub node_number : List ℕ → Option ℕ
node_number text =
    if length text == 0 then None else
    (if slice_index text 0 == 48 && nat_lt 1 (length text) then None else digits_after 0 text)

-- a text is a number exactly where it is what is written for one below a million
abbrev pub ReadsNumbers : Type 0
ReadsNumbers =
    (text : List ℕ) (n : ℕ)
    → (node_number text ≡ Some n) ↔ ((text ≡ decimal n) × (n < NODE_NUMBERS))

-- the number, where it is not 0
abbrev pub at_least_one : Option ℕ → Option ℕ
at_least_one None = None
at_least_one (Some n) = if n == 0 then None else Some n

-- the ID of a word: a number from 1
abbrev pub word_id : List ℕ → Option ℕ
word_id text = at_least_one (node_number text)

-- whether both numbers are there and the first is not greater than the second
abbrev pub are_in_order : Option ℕ → Option ℕ → Bool
are_in_order (Some a) (Some b) = nat_le a b
are_in_order a b = false

-- the ID of a range line, cut at its `-`: a-b with 1 <= a <= b
abbrev pub is_range : Option (List ℕ × List ℕ) → Bool
is_range None = false
is_range (Some p) = are_in_order (word_id p.0) (word_id p.1)

-- the ID of an empty node, cut at its `.`: a.b with b at least 1
abbrev pub is_empty_node : Option (List ℕ × List ℕ) → Bool
is_empty_node None = false
is_empty_node (Some p) = is_some (node_number p.0) && is_some (word_id p.1)

-- whether an ID is that of a range line or of an empty node
abbrev pub is_range_or_empty_node : List ℕ → Bool
is_range_or_empty_node text = is_range (split_once 45 text) || is_empty_node (split_once 46 text)

-- HEAD: `_`, which counts as 0, or a number
abbrev pub governor_of : List ℕ → Option ℕ
governor_of text = if bytes_eq text (95 ∷ []) then Some 0 else node_number text

-- a column's value: none where it is `_` or empty
abbrev pub column_value : List ℕ → Option (List ℕ)
column_value text = if length text == 0 || bytes_eq text (95 ∷ []) then None else Some text

-- DEPREL as it stands, where an empty one is `_`
abbrev pub edge_label : List ℕ → List ℕ
edge_label text = if length text == 0 then 95 ∷ [] else text

-- the value of an item, cut at its first `=`, where it has this key
abbrev pub value_at_key : List ℕ → Option (List ℕ × List ℕ) → Option (List ℕ)
value_at_key key None = None
value_at_key key (Some p) = if bytes_eq p.0 key then Some p.1 else None

-- the value of the first item that has this key
abbrev pub first_value : List ℕ → List (List ℕ) → Option (List ℕ)
first_value key [] = None
first_value key (item ∷ items) =
    option_or (value_at_key key (split_once 61 item)) (first_value key items)

-- the value that MISC, whose items stand between `|`, has for this key
abbrev pub misc_value : List ℕ → List ℕ → Option (List ℕ)
misc_value key misc = first_value key (slice_split (λ b. b == 124) misc)
