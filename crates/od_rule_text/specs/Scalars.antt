-- What a scalar says: plain, between double quotes, or literal, on the lines below its key.
use Rattle.std.specs.Prelude.{ℕ, ◌-◌, ◌==◌, ◌&&◌, ◌||◌, not, Bool, true, false, List, [], ◌∷◌, ◌++◌, length, take, drop, min, if◌then◌else◌, nat_lt, nat_le, Option, None, Some, codes}
use Rattle.std.specs.Option.{option_map, option_and_then}
use Rattle.std.specs.List.{list_any, take_while}
use Rattle.std.specs.Str.{bytes_eq}
use Rattle.od_rule_text.specs.Texts.{begins_with}
use Rattle.od_rule_text.specs.Blanks.{is_blank, is_blank_line, without_last, past_blanks, without_outer_blanks, indentation, is_nothing_or_comment}

-- ## Plain

-- the text before the first blank that `#` follows
abbrev pub before_comment : List ℕ → List ℕ
before_comment [] = []
before_comment (c ∷ text) = if is_blank c && begins_with 35 text then [] else c ∷ before_comment text

-- whether `: ` stands somewhere
abbrev pub has_colon_space : List ℕ → Bool
has_colon_space [] = false
has_colon_space (c ∷ text) = (c == 58 && begins_with 32 text) || has_colon_space text

-- the characters with which no plain scalar begins
abbrev pub is_indicator : ℕ → Bool
is_indicator c = list_any (λ d. d == c) (codes "[]{},&*!|>'\"%@`#")

-- whether a text begins with `- ` or `? `
abbrev pub begins_with_mark : List ℕ → Bool
begins_with_mark [] = false
begins_with_mark (c ∷ text) = (c == 45 || c == 63) && begins_with 32 text

-- whether a text without outer blanks may be a plain scalar
abbrev pub is_plain : List ℕ → Bool
is_plain [] = false
is_plain (c ∷ text) =
    not (is_indicator c) && not (begins_with_mark (c ∷ text)) && not (has_colon_space (c ∷ text))

-- a text, where it may be a plain scalar
abbrev pub plain_text : List ℕ → Option (List ℕ)
plain_text text = if is_plain text then Some text else None

-- the rest of the line up to a comment, without outer blanks, where that may be a plain scalar
abbrev pub plain : List ℕ → Option (List ℕ)
plain rest = plain_text (without_outer_blanks (before_comment rest))

-- ## Between double quotes

-- what a backslash and a character stand for: `"`, `\`, a line feed for n, a tab for t
abbrev pub escaped : ℕ → Option ℕ
escaped c =
    if c == 34 || c == 92 then Some c else
    if c == 110 then Some 10 else
    if c == 116 then Some 9 else
    None

-- behind the closing quote stand blanks, a comment or nothing
abbrev pub may_follow_quote : List ℕ → Bool
may_follow_quote rest = is_nothing_or_comment (past_blanks rest)

-- the text up to the closing quote; `behind` says whether a backslash stands before, which escapes
abbrev pub quoted : (behind : Bool) → List ℕ → Option (List ℕ)
quoted behind [] = None
quoted true (c ∷ text) =
    option_and_then (λ b. option_map (λ more. b ∷ more) (quoted false text)) (escaped c)
quoted false (c ∷ text) =
    if c == 34 then (if may_follow_quote text then Some [] else None) else
    if c == 92 then quoted true text else
    option_map (λ more. c ∷ more) (quoted false text)

-- ## Literal

-- `|` or `|-`: the text stands on the lines below
abbrev pub is_literal : List ℕ → Bool
is_literal rest = bytes_eq rest (codes "|") || bytes_eq rest (codes "|-")

-- the indentation of the first line that is not blank, and 0 where there is none
abbrev pub first_indentation : List (List ℕ) → ℕ
first_indentation [] = 0
first_indentation (line ∷ lines) =
    if is_blank_line line then first_indentation lines else indentation line

-- a blank line, or one that is indented at least so far
abbrev pub is_literal_line : ℕ → List ℕ → Bool
is_literal_line n line = is_blank_line line || nat_le n (indentation line)

-- The lines of a literal, of the lines below its key, which stands at this column:
-- those that are blank or indented as far as the first that is not blank,
-- where that one is indented above the key.
abbrev pub literal_lines : ℕ → List (List ℕ) → List (List ℕ)
literal_lines column lines =
    if nat_lt column (first_indentation lines)
    then take_while (is_literal_line (first_indentation lines)) lines
    else []

-- a line without this indentation, or without the spaces of a shorter one
abbrev pub unindented : ℕ → List ℕ → List ℕ
unindented n line = drop (min n (indentation line)) line

-- lines without this indentation, each with a line feed
abbrev pub joined_lines : ℕ → List (List ℕ) → List ℕ
joined_lines n [] = []
joined_lines n (line ∷ lines) = (unindented n line ++ 10 ∷ []) ++ joined_lines n lines

-- the text of the lines of a literal, without the blank lines at their end
abbrev pub literal_text : List (List ℕ) → List ℕ
literal_text lines = joined_lines (first_indentation lines) (without_last is_blank_line lines)

-- `|-` takes the last line feed off
abbrev pub literal : List ℕ → List (List ℕ) → List ℕ
literal rest lines =
    if bytes_eq rest (codes "|") then literal_text lines else
    take (length (literal_text lines) - 1) (literal_text lines)

-- ## Any of them

-- the lines that belong to a scalar, of those below its key, which stands at this column;
-- `rest` is what follows the key
abbrev pub scalar_lines : ℕ → List ℕ → List (List ℕ) → List (List ℕ)
scalar_lines column rest lines = if is_literal rest then literal_lines column lines else []

-- the text of a scalar: `rest` is what follows its key, and the lines are those that belong to it
abbrev pub scalar : List ℕ → List (List ℕ) → Option (List ℕ)
scalar rest lines =
    if begins_with 34 rest then quoted false (drop 1 rest) else
    if is_literal rest then Some (literal rest lines) else
    plain rest
