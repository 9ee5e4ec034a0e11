-- Scalars, worked out.
use Rattle.std.specs.Prelude.{◌≡◌, refl, [], ◌∷◌, Some, None, codes}
use Rattle.od_rule_text.specs.Scalars.{scalar, literal_lines}

-- ## Plain

-- blanks around a plain scalar go
outer_blanks : scalar (codes " a b  ") [] ≡ Some (codes "a b")
outer_blanks = refl

-- a comment goes with the blanks before it
comment : scalar (codes "a  # c") [] ≡ Some (codes "a")
comment = refl

-- `#` behind no blank, `:` at the end and `-` alone stay
hash : scalar (codes "a#b") [] ≡ Some (codes "a#b")
hash = refl

colon : scalar (codes "a:") [] ≡ Some (codes "a:")
colon = refl

dash : scalar (codes "-") [] ≡ Some (codes "-")
dash = refl

-- a colon before a comment is a colon at the end
colon_before_comment : scalar (codes "a: # c") [] ≡ Some (codes "a:")
colon_before_comment = refl

-- nothing, `: ` within, a comment alone and the marks of other forms are no scalars
nothing : scalar [] [] ≡ None
nothing = refl

colon_within : scalar (codes "a: b") [] ≡ None
colon_within = refl

comment_alone : scalar (codes "# c") [] ≡ None
comment_alone = refl

flow : scalar (codes "[a]") [] ≡ None
flow = refl

single_quotes : scalar (codes "'a'") [] ≡ None
single_quotes = refl

list_mark : scalar (codes "- a") [] ≡ None
list_mark = refl

key_mark : scalar (codes "? a") [] ≡ None
key_mark = refl

-- ## Between double quotes

escapes : scalar (codes "\"a\\\"\\\\\\n\\tb\"") [] ≡ Some (codes "a\"\\\n\tb")
escapes = refl

empty : scalar (codes "\"\"") [] ≡ Some []
empty = refl

comment_at_quote : scalar (codes "\"a\"#b") [] ≡ Some (codes "a")
comment_at_quote = refl

comment_behind_quote : scalar (codes "\"a\" #b") [] ≡ Some (codes "a")
comment_behind_quote = refl

-- other escapes, an open quote and anything else behind the quote are no scalars, nor is a quote behind a blank
other_escape : scalar (codes "\"\\r\"") [] ≡ None
other_escape = refl

open_quote : scalar (codes "\"a") [] ≡ None
open_quote = refl

text_behind_quote : scalar (codes "\"a\" b") [] ≡ None
text_behind_quote = refl

blank_before_quote : scalar (codes " \"a\"") [] ≡ None
blank_before_quote = refl

-- ## Literal

-- blank lines before and between stay, one that is longer keeps its further blanks, those at the end go
blank_lines : scalar (codes "|") (codes "" ∷ codes "   a" ∷ codes "     " ∷ codes " " ∷ codes "    b" ∷ codes "" ∷ codes "  " ∷ [])
    ≡ Some (codes "\na\n  \n\n b\n")
blank_lines = refl

-- `|-` takes the last line feed off
chomped : scalar (codes "|-") (codes "  a" ∷ codes "  b" ∷ []) ≡ Some (codes "a\nb")
chomped = refl

no_lines : scalar (codes "|") [] ≡ Some []
no_lines = refl

no_lines_chomped : scalar (codes "|-") [] ≡ Some []
no_lines_chomped = refl

-- a blank or a comment behind the mark, a blank before it and other marks are no scalars
blank_behind_mark : scalar (codes "| ") [] ≡ None
blank_behind_mark = refl

comment_behind_mark : scalar (codes "| # c") [] ≡ None
comment_behind_mark = refl

blank_before_mark : scalar (codes " |") [] ≡ None
blank_before_mark = refl

kept_mark : scalar (codes "|+") [] ≡ None
kept_mark = refl

-- a literal goes on while lines are blank or indented as far as its first; the first must be indented above the key
goes_on : literal_lines 2 (codes "   a" ∷ codes "" ∷ codes "    b" ∷ codes "  c" ∷ codes "   d" ∷ []) ≡ codes "   a" ∷ codes "" ∷ codes "    b" ∷ []
goes_on = refl

not_above : literal_lines 2 (codes "" ∷ codes "  a" ∷ []) ≡ []
not_above = refl

blank_lines_alone : literal_lines 2 (codes "" ∷ codes "     " ∷ []) ≡ []
blank_lines_alone = refl
