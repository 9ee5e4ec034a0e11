-- What spells a lexeme, on characters.
use Rattle.std.specs.Prelude.{◌≡◌, ℕ, ◌+◌, ◌-◌, ◌*◌, Bool, true, false, not, ◌&&◌, ◌||◌, ◌==◌, if◌then◌else◌, nat_lt, nat_le, List, [], ◌∷◌, ◌++◌, length, Option, Some, None, codes}
use Rattle.std.specs.List.{list_all}
use Rattle.std.specs.Char.{encode_utf8, is_whitespace, is_ascii_alphanumeric, is_ascii_digit}
use Rattle.std.specs.Str.{encode_utf8_all}
use Rattle.od_language.specs.declared.lexeme.LexKind.{LexKind}
use Rattle.od_language.specs.declared.lexeme.LexKind.TheVariants.{Word, Quoted, Regex, NameOpen, AheadIs, AheadNot, BehindIs, BehindNot, Range, SquareOpen, SquareClose, RoundOpen, RoundClose, And, Or, Not, Equal, At, Along, Against, AnyAlong, AnyAgainst, Question, Star, Plus, Caret, Dollar}
use Rattle.od_language.specs.declared.limits.TheConstants.{GREATEST_NUMBER}
use Rattle.od_language.specs.Identifier.{is_identifier}

-- an ASCII letter or digit, `_`, or a character from U+0080 that is no white space
abbrev pub begins_word : ℕ → Bool
begins_word c = is_ascii_alphanumeric c || c == 95 || (nat_le 128 c && not (is_whitespace c))

-- these, `-` and `:`
abbrev pub in_word : ℕ → Bool
in_word c = begins_word c || c == 45 || c == 58

-- `"` or `'`
abbrev pub is_quote : ℕ → Bool
is_quote c = c == 34 || c == 39

-- the text up to the mark that closes it, and the mark: a backslash and a character stand for that
-- character
pub data QuotedText (mark : ℕ) : List ℕ → List ℕ → Type 0 where
  closed : QuotedText mark (mark ∷ []) []
  escaped : (c : ℕ) (more text : List ℕ) → QuotedText mark more text →
      QuotedText mark (92 ∷ c ∷ more) (encode_utf8 c ++ text)
  plain : (c : ℕ) (more text : List ℕ) → (c == mark) ≡ false → (c == 92) ≡ false →
      QuotedText mark more text → QuotedText mark (c ∷ more) (encode_utf8 c ++ text)

-- what a backslash and a character stand for in a regular expression: `\/` is `/`, other pairs stay
-- whole
abbrev pub pair : ℕ → List ℕ
pair c = if c == 47 then encode_utf8 c else 92 ∷ encode_utf8 c

-- the regular expression up to the `/` that closes it, and the `/`
pub data RegexText : List ℕ → List ℕ → Type 0 where
  ended : RegexText (47 ∷ []) []
  paired : (c : ℕ) (more text : List ℕ) → RegexText more text →
      RegexText (92 ∷ c ∷ more) (pair c ++ text)
  kept : (c : ℕ) (more text : List ℕ) → (c == 47) ≡ false → (c == 92) ≡ false → RegexText more text →
      RegexText (c ∷ more) (encode_utf8 c ++ text)

-- the value of decimal digits behind a number n
abbrev pub value_from : ℕ → List ℕ → ℕ
value_from n [] = n
value_from n (d ∷ more) = value_from (n * 10 + (d - 48)) more

-- a number up to the greatest from its digits; none where there is no digit, or a zero leads others
abbrev pub number : List ℕ → Option ℕ
number [] = None
number (d ∷ more) =
    if d == 48 && not (length more == 0) then None else
    if nat_lt GREATEST_NUMBER (value_from 0 (d ∷ more)) then None else
    Some (value_from 0 (d ∷ more))

-- the number that these digits are
pub record IsNumber (digits : List ℕ) (n : ℕ) : Type 0 where
  pub digital : list_all is_ascii_digit digits ≡ true
  pub value : number digits ≡ Some n

-- the symbols
unfoldable pub symbol_of : LexKind → Option (List ℕ)
symbol_of AheadIs = Some (codes "(?=")
symbol_of AheadNot = Some (codes "(?!")
symbol_of BehindIs = Some (codes "(?<=")
symbol_of BehindNot = Some (codes "(?<!")
symbol_of SquareOpen = Some (codes "[")
symbol_of SquareClose = Some (codes "]")
symbol_of RoundOpen = Some (codes "(")
symbol_of RoundClose = Some (codes ")")
symbol_of And = Some (codes "&")
symbol_of Or = Some (codes "|")
symbol_of Not = Some (codes "!")
symbol_of Equal = Some (codes "=")
symbol_of At = Some (codes "@")
symbol_of Along = Some (codes ">")
symbol_of Against = Some (codes "<")
symbol_of AnyAlong = Some (codes ">>")
symbol_of AnyAgainst = Some (codes "<<")
symbol_of Question = Some (codes "?")
symbol_of Star = Some (codes "*")
symbol_of Plus = Some (codes "+")
symbol_of Caret = Some (codes "^")
symbol_of Dollar = Some (codes "$")
symbol_of _ = None

-- these characters spell a lexeme
pub data Spells : List ℕ → LexKind → Type 0 where
  word : (c : ℕ) (more : List ℕ) → begins_word c ≡ true → list_all in_word more ≡ true →
      Spells (c ∷ more) (Word (encode_utf8_all (c ∷ more)))
  quoted : (mark : ℕ) (more text : List ℕ) → is_quote mark ≡ true → QuotedText mark more text →
      Spells (mark ∷ more) (Quoted text)
  regex : (more text : List ℕ) → RegexText more text → Spells (47 ∷ more) (Regex text)
  name_open : (name : List ℕ) → is_identifier name ≡ true →
      Spells (40 ∷ 63 ∷ 60 ∷ (name ++ 62 ∷ [])) (NameOpen (encode_utf8_all name))
  -- {n}
  exactly : (a : List ℕ) (n : ℕ) → IsNumber a n → Spells (123 ∷ (a ++ 125 ∷ [])) (Range n (Some n))
  -- {n,m}
  between : (a : List ℕ) (n : ℕ) (b : List ℕ) (m : ℕ) → IsNumber a n → IsNumber b m →
      Spells (123 ∷ (a ++ 44 ∷ (b ++ 125 ∷ []))) (Range n (Some m))
  -- {n,}
  at_least : (a : List ℕ) (n : ℕ) → IsNumber a n → Spells (123 ∷ (a ++ 44 ∷ 125 ∷ [])) (Range n None)
  -- {,m}
  at_most : (b : List ℕ) (m : ℕ) → IsNumber b m → Spells (123 ∷ 44 ∷ (b ++ 125 ∷ [])) (Range 0 (Some m))
  symbol : (k : LexKind) (text : List ℕ) → symbol_of k ≡ Some text → Spells text k
