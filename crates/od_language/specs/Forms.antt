-- The forms of lexemes as the lexer tests them, on characters. A form gives what stands there, and the
-- characters behind it.
use Rattle.std.specs.Prelude.{ℕ, Bool, true, false, ◌&&◌, ◌==◌, if◌then◌else◌, List, [], ◌∷◌, ◌++◌, take, drop, Option, Some, None, Result, Ok, Err}
use Rattle.std.specs.List.{prefix_len}
use Rattle.std.specs.Char.{encode_utf8, is_ascii_digit}
use Rattle.std.specs.Str.{encode_utf8_all}
use Rattle.od_language.specs.declared.lexeme.Miss.{Miss}
use Rattle.od_language.specs.declared.lexeme.Miss.TheVariants as miss
use Rattle.od_language.specs.declared.lexeme.LexKind.{LexKind}
use Rattle.od_language.specs.declared.lexeme.LexKind.TheVariants as lexeme
use Rattle.od_language.specs.Identifier.{in_identifier, is_identifier}
use Rattle.od_language.specs.Spelling.{begins_word, in_word, is_quote, pair, number}

-- c before what is spelled
abbrev pub before : List ℕ → Option (List ℕ × List ℕ) → Option (List ℕ × List ℕ)
before t None = None
before t (Some x) = Some (t ++ x.0, x.1)

-- up to the quote; behind a backslash each character stands for itself
abbrev pub quoted : ℕ → Bool → List ℕ → Option (List ℕ × List ℕ)
quoted q e [] = None
quoted q true (c ∷ cs) = before (encode_utf8 c) (quoted q false cs)
quoted q false (c ∷ cs) =
    if c == q then Some ([], cs) else
    if c == 92 then quoted q true cs else
    before (encode_utf8 c) (quoted q false cs)

-- up to the slash; of pairs only `\/` is changed
abbrev pub regex : Bool → List ℕ → Option (List ℕ × List ℕ)
regex e [] = None
regex true (c ∷ cs) = before (pair c) (regex false cs)
regex false (c ∷ cs) =
    if c == 47 then Some ([], cs) else
    if c == 92 then regex true cs else
    before (encode_utf8 c) (regex false cs)

-- a word from its first character on
abbrev pub text_of : ℕ → List ℕ → LexKind × List ℕ
text_of c cs =
    (lexeme.Word (encode_utf8 c ++ encode_utf8_all (take (prefix_len in_word cs) cs)), drop (prefix_len in_word cs) cs)

-- a text that was found, as a lexeme
abbrev pub or_miss : (List ℕ → LexKind) → Miss → Option (List ℕ × List ℕ) →
    Result (LexKind × List ℕ) Miss
or_miss f m None = Err m
or_miss f m (Some x) = Ok (f x.0, x.1)

-- a symbol that may be doubled
abbrev pub doubled : ℕ → LexKind → LexKind → List ℕ → LexKind × List ℕ
doubled c one two [] = (one, [])
doubled c one two (d ∷ cs) = if d == c then (two, cs) else (one, d ∷ cs)

-- the symbols that are always one character
abbrev pub symbol : ℕ → Option LexKind
symbol c =
    if c == 91 then Some lexeme.SquareOpen else
    if c == 93 then Some lexeme.SquareClose else
    if c == 41 then Some lexeme.RoundClose else
    if c == 38 then Some lexeme.And else
    if c == 124 then Some lexeme.Or else
    if c == 33 then Some lexeme.Not else
    if c == 61 then Some lexeme.Equal else
    if c == 64 then Some lexeme.At else
    if c == 63 then Some lexeme.Question else
    if c == 42 then Some lexeme.Star else
    if c == 43 then Some lexeme.Plus else
    if c == 94 then Some lexeme.Caret else
    if c == 36 then Some lexeme.Dollar else
    None

-- a symbol of one character
abbrev pub single : Option LexKind → List ℕ → Result (LexKind × List ℕ) Miss
single None cs = Err miss.BadChar
single (Some k) cs = Ok (k, cs)

-- a name and its `>`
abbrev pub named_to : List ℕ → List ℕ → Option (LexKind × List ℕ)
named_to name [] = None
named_to name (c ∷ cs) =
    if c == 62 && is_identifier name then Some (lexeme.NameOpen (encode_utf8_all name), cs) else None

-- behind `(?<`, a name and `>`
abbrev pub named : List ℕ → Option (LexKind × List ℕ)
named cs = named_to (take (prefix_len in_identifier cs) cs) (drop (prefix_len in_identifier cs) cs)

-- `=` or `!`, as the one lexeme or the other
abbrev pub sign : LexKind → LexKind → List ℕ → Option (LexKind × List ℕ)
sign is other [] = None
sign is other (c ∷ cs) = if c == 61 then Some (is, cs) else if c == 33 then Some (other, cs) else None

-- the first of two forms that fits
abbrev pub either_form : Option (LexKind × List ℕ) → Option (LexKind × List ℕ) → Option (LexKind × List ℕ)
either_form None o = o
either_form (Some x) o = Some x

-- behind `(?<`
abbrev pub behind : List ℕ → Option (LexKind × List ℕ)
behind cs = either_form (sign lexeme.BehindIs lexeme.BehindNot cs) (named cs)

-- behind `(?`, where `<` comes
abbrev pub back : List ℕ → Option (LexKind × List ℕ)
back [] = None
back (c ∷ cs) = if c == 60 then behind cs else None

-- behind `(?`
abbrev pub looking : List ℕ → Option (LexKind × List ℕ)
looking cs = either_form (sign lexeme.AheadIs lexeme.AheadNot cs) (back cs)

-- `(` alone where nothing longer fits
abbrev pub or_round : Option (LexKind × List ℕ) → List ℕ → LexKind × List ℕ
or_round None cs = (lexeme.RoundOpen, cs)
or_round (Some x) cs = x

-- behind a `(`
abbrev pub round : List ℕ → LexKind × List ℕ
round [] = (lexeme.RoundOpen, [])
round (c ∷ cs) = if c == 63 then or_round (looking cs) (c ∷ cs) else (lexeme.RoundOpen, c ∷ cs)

-- a least and a most number
abbrev pub to_bound : ℕ → Option ℕ → Option (ℕ × Option ℕ)
to_bound n None = None
to_bound n (Some m) = Some (n, Some m)

-- a least number, and a most if there are digits
abbrev pub from_bound : Option ℕ → List ℕ → Option (ℕ × Option ℕ)
from_bound None b = None
from_bound (Some n) [] = Some (n, None)
from_bound (Some n) (d ∷ ds) = to_bound n (number (d ∷ ds))

-- the two bounds around a comma
abbrev pub bounds : List ℕ → List ℕ → Option (ℕ × Option ℕ)
bounds [] b = to_bound 0 (number b)
bounds (d ∷ ds) b = from_bound (number (d ∷ ds)) b

-- a range, if its bounds are numbers
abbrev pub bounded : List ℕ → Option (ℕ × Option ℕ) → Option (LexKind × List ℕ)
bounded cs None = None
bounded cs (Some x) = Some (lexeme.Range x.0 x.1, cs)

-- behind `{`, the digits a, a comma and the digits b
abbrev pub upper : List ℕ → List ℕ → List ℕ → Option (LexKind × List ℕ)
upper a b [] = None
upper a b (c ∷ cs) = if c == 125 then bounded cs (bounds a b) else None

-- behind `{`, the digits a and a comma
abbrev pub upper_from : List ℕ → List ℕ → Option (LexKind × List ℕ)
upper_from a cs =
    upper a (take (prefix_len is_ascii_digit cs) cs) (drop (prefix_len is_ascii_digit cs) cs)

-- one number as both bounds
abbrev pub exactly : Option ℕ → Option (ℕ × Option ℕ)
exactly None = None
exactly (Some n) = Some (n, Some n)

-- behind `{` and the digits a
abbrev pub lower : List ℕ → List ℕ → Option (LexKind × List ℕ)
lower a [] = None
lower a (c ∷ cs) =
    if c == 125 then bounded cs (exactly (number a)) else
    if c == 44 then upper_from a cs else
    None

-- behind a `{`
abbrev pub range : List ℕ → Option (LexKind × List ℕ)
range cs = lower (take (prefix_len is_ascii_digit cs) cs) (drop (prefix_len is_ascii_digit cs) cs)

-- a lexeme that was found
abbrev pub or_bad : Miss → Option (LexKind × List ℕ) → Result (LexKind × List ℕ) Miss
or_bad m None = Err m
or_bad m (Some x) = Ok x

-- the first form that fits
unfoldable pub form : ℕ → List ℕ → Result (LexKind × List ℕ) Miss
form c cs =
    if begins_word c then Ok (text_of c cs) else
    if is_quote c then or_miss lexeme.Quoted miss.OpenText (quoted c false cs) else
    if c == 47 then or_miss lexeme.Regex miss.OpenRegex (regex false cs) else
    if c == 40 then Ok (round cs) else
    if c == 123 then or_bad miss.BadNumber (range cs) else
    if c == 62 then Ok (doubled 62 lexeme.Along lexeme.AnyAlong cs) else
    if c == 60 then Ok (doubled 60 lexeme.Against lexeme.AnyAgainst cs) else
    single (symbol c) cs
