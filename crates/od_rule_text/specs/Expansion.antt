-- What a text becomes when its variables are replaced.
use Rattle.std.specs.Prelude.{ℕ, zero, suc, ◌+◌, ◌==◌, ◌&&◌, ◌||◌, not, Bool, false, List, [], ◌∷◌, ◌++◌, length, drop, if◌then◌else◌, Option, None, Some, Result, Ok, Err}
use Rattle.std.specs.List.{filter, find, take_while}
use Rattle.std.specs.Str.{bytes_eq}
use Rattle.od_language.specs.Identifier.{is_identifier, in_identifier}
use Rattle.od_rule_text.specs.declared.rule_file.KeyText.{KeyText}
use Rattle.od_rule_text.specs.Texts.{begins_with, is_among}

-- ## Occurrences

-- a byte that stays, or the occurrence of a variable
pub data Piece : Type 0 where
  stays : ℕ → Piece
  occurs : List ℕ → Piece

-- this name, where it is an identifier and `}` follows it
abbrev pub closed_name : List ℕ → List ℕ → Option (List ℕ)
closed_name name rest = if is_identifier name && begins_with 125 rest then Some name else None

-- the longest name at the front of a text, where it is an identifier and `}` follows it
abbrev pub name_before_brace : List ℕ → Option (List ℕ)
name_before_brace text =
    closed_name (take_while in_identifier text) (drop (length (take_while in_identifier text)) text)

-- whether a text begins with `${`
abbrev pub begins_with_opening : List ℕ → Bool
begins_with_opening [] = false
begins_with_opening (c ∷ text) = c == 36 && begins_with 123 text

-- whether `${` stands somewhere
abbrev pub has_opening : List ℕ → Bool
has_opening [] = false
has_opening (c ∷ text) = begins_with_opening (c ∷ text) || has_opening text

-- the variable that occurs at the front of a text: `${`, an identifier and `}`
abbrev pub occurrence : List ℕ → Option (List ℕ)
occurrence text = if begins_with_opening text then name_before_brace (drop 2 text) else None

-- the piece at the front of a text whose first byte is c
abbrev pub piece_at : ℕ → Option (List ℕ) → Piece
piece_at c None = stays c
piece_at c (Some name) = occurs name

-- how many bytes behind the first belong to that piece: `{`, the name and `}`
abbrev pub bytes_behind : Option (List ℕ) → ℕ
bytes_behind None = 0
bytes_behind (Some name) = length name + 2

-- the pieces of a text from left to right; its first k bytes belong to the piece before
abbrev pub pieces : (k : ℕ) → List ℕ → List Piece
pieces k [] = []
pieces (suc k) (c ∷ text) = pieces k text
pieces zero (c ∷ text) =
    piece_at c (occurrence (c ∷ text)) ∷ pieces (bytes_behind (occurrence (c ∷ text))) text

-- ## Expansion

-- what can be wrong: a variable that is not there, or one that is reached again within its own expansion
pub data Misfit : Type 0 where
  unknown : Misfit
  cycle : List ℕ → Misfit

-- a text in front of an expansion
abbrev pub in_front : List ℕ → Result (List ℕ) Misfit → Result (List ℕ) Misfit
in_front front (Ok text) = Ok (front ++ text)
in_front front (Err misfit) = Err misfit

-- an expansion and the one behind it; the misfit that stands first is told
abbrev pub followed : Result (List ℕ) Misfit → Result (List ℕ) Misfit → Result (List ℕ) Misfit
followed (Ok front) behind = in_front front behind
followed (Err misfit) behind = Err misfit

-- pieces joined from left to right, each variable by its expansion
abbrev pub joined : (List ℕ → Result (List ℕ) Misfit) → List Piece → Result (List ℕ) Misfit
joined expansion [] = Ok []
joined expansion (stays c ∷ more) = in_front (c ∷ []) (joined expansion more)
joined expansion (occurs name ∷ more) = followed (expansion name) (joined expansion more)

-- whether a variable has this name
abbrev pub is_named : List ℕ → KeyText → Bool
is_named name variable = bytes_eq variable.key name

-- the variables of other names
abbrev pub without : List ℕ → List KeyText → List KeyText
without name vars = filter (λ v. not (is_named name v)) vars

-- the expansion of a variable's text, where the variable is there
abbrev pub text_of : (List ℕ → Result (List ℕ) Misfit) → Option KeyText → Result (List ℕ) Misfit
text_of expansion None = Err unknown
text_of expansion (Some variable) = joined expansion (pieces 0 variable.value)

-- The expansion of a variable within the expansions of others. If it is one of these, there is a cycle.
-- Else it is one of those that are left, of which there are d at most;
-- where none is left, it is unknown.
abbrev pub expansion : (d : ℕ) (left : List KeyText) (within : List (List ℕ)) →
    List ℕ → Result (List ℕ) Misfit
expansion zero left within name = if is_among within name then Err (cycle name) else Err unknown
expansion (suc d) left within name =
    if is_among within name then Err (cycle name) else
    text_of (λ inner. expansion d (without name left) (name ∷ within) inner) (find (is_named name) left)

-- a text with its variables replaced, or the first misfit in the order of expansion
unfoldable pub expanded : (vars : List KeyText) → List ℕ → Result (List ℕ) Misfit
expanded vars text = joined (λ name. expansion (length vars) vars [] name) (pieces 0 text)
