-- The lexemes of a text, and its first fault: each lexeme is the longest front of what is left that
-- spells one.
use Rattle.std.specs.Prelude.{◌≡◌, ℕ, ◌+◌, true, false, ◌==◌, if◌then◌else◌, List, [], ◌∷◌, ◌++◌, Option, Some, None}
use Rattle.std.specs.Char.{len_utf8, is_whitespace}
use Rattle.od_language.specs.declared.lexeme.Miss.{Miss}
use Rattle.od_language.specs.declared.lexeme.Miss.TheVariants.{BadChar, OpenText, OpenRegex, BadNumber}
use Rattle.od_language.specs.declared.lexeme.Lexeme.{Lexeme}
use Rattle.od_language.specs.declared.lexeme.LexKind.{LexKind}
use Rattle.od_language.specs.declared.lexeme.LexKind.TheVariants.{End}
use Rattle.od_language.specs.Alphabet.{plain, IsEnded}
use Rattle.od_language.specs.Spelling.{Spells, is_quote}

-- how many bytes characters have in UTF-8
abbrev pub size_of : List ℕ → ℕ
size_of [] = 0
size_of (c ∷ more) = len_utf8 c + size_of more

-- no front of the characters spells a lexeme
abbrev pub SpellsNothing : List ℕ → Type 0
SpellsNothing cs = (front rest : List ℕ) (k : LexKind) → cs ≡ front ++ rest → Spells front k → ⊥

-- no front that is longer than this one, before the rest, spells a lexeme
abbrev pub IsLongest : List ℕ → List ℕ → Type 0
IsLongest front rest =
    (more behind : List ℕ) (k : LexKind) → rest ≡ more ++ behind → Spells (front ++ more) k → more ≡ []

-- what is wrong where no lexeme stands, by the first character
abbrev pub miss_at : ℕ → Miss
miss_at c =
    if is_quote c then OpenText else
    if c == 47 then OpenRegex else
    if c == 123 then BadNumber else
    BadChar

-- The lexemes of characters that begin at a place, up to the first fault if there is one: `End` has the
-- fault's place, else that of the end.
pub data Lexes : ℕ → List ℕ → List Lexeme → Option (ℕ × Miss) → Type 0 where
  end : (at : ℕ) → Lexes at [] ((record { at = at; kind = End }) ∷ []) None
  stuck : (at c : ℕ) (cs : List ℕ) → is_whitespace c ≡ false → SpellsNothing (c ∷ cs) →
      Lexes at (c ∷ cs) ((record { at = at; kind = End }) ∷ []) (Some (at, miss_at c))
  white : (at c : ℕ) (cs : List ℕ) (xs : List Lexeme) (f : Option (ℕ × Miss)) →
      is_whitespace c ≡ true → Lexes (at + len_utf8 c) cs xs f → Lexes at (c ∷ cs) xs f
  next : (at c : ℕ) (front rest : List ℕ) (k : LexKind) (xs : List Lexeme) (f : Option (ℕ × Miss)) →
      is_whitespace c ≡ false →
      Spells (c ∷ front) k → IsLongest (c ∷ front) rest → Lexes (at + size_of (c ∷ front)) rest xs f → Lexes at (c ∷ (front ++ rest)) ((record { at = at; kind = k }) ∷ xs) f

-- Characters have exactly one reading, which ends with `End`.
pub record OneReading (cs : List ℕ) : Type 0 where
  pub some : (xs : List Lexeme) × (f : Option (ℕ × Miss)) × Lexes 0 cs xs f
  pub unique : (xs ys : List Lexeme) (f g : Option (ℕ × Miss)) → Lexes 0 cs xs f → Lexes 0 cs ys g →
      (xs ≡ ys) × (f ≡ g)
  pub ends : (xs : List Lexeme) (f : Option (ℕ × Miss)) → Lexes 0 cs xs f → IsEnded plain xs

-- the first fault of characters that are not split into lexemes, with its place
abbrev pub IsLexFault : List ℕ → ℕ → Miss → Type 0
IsLexFault cs at m = (xs : List Lexeme) × Lexes 0 cs xs (Some (at, m))
