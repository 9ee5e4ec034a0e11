-- The lexemes of a text as a value: the first form that fits is taken at each place.
use Rattle.std.specs.Prelude.{◌≡◌, ◌↔◌, ℕ, zero, suc, ◌+◌, ◌-◌, if◌then◌else◌, List, [], ◌∷◌, length, Option, Some, None, Result, Ok, Err}
use Rattle.std.specs.Char.{len_utf8, is_whitespace}
use Rattle.od_language.specs.declared.lexeme.Miss.{Miss}
use Rattle.od_language.specs.declared.lexeme.Lexeme.{Lexeme}
use Rattle.od_language.specs.declared.lexeme.LexKind.{LexKind}
use Rattle.od_language.specs.declared.lexeme.LexKind.TheVariants.{End}
use Rattle.od_language.specs.Forms.{form}
use Rattle.od_language.specs.Lexing.{Lexes, size_of}

-- lexemes, and the lexer's fault with its place, if there is one
abbrev pub Lexemes : Type 0
Lexemes = List Lexeme × Option (ℕ × Miss)

-- the end alone
abbrev pub only_end : ℕ → Option (ℕ × Miss) → Lexemes
only_end at f = ((record { at = at; kind = End }) ∷ [], f)

-- a lexeme before others
abbrev pub before : ℕ → LexKind → Lexemes → Lexemes
before at k more = ((record { at = at; kind = k }) ∷ more.0, more.1)

-- what stands at a place where c and cs are left, and goes on behind it
abbrev pub lexed_form : (ℕ → List ℕ → Lexemes) → ℕ → ℕ → List ℕ → Result (LexKind × List ℕ) Miss →
    Lexemes
lexed_form go at c cs (Ok x) = before at x.0 (go (at + (size_of (c ∷ cs) - size_of x.1)) x.1)
lexed_form go at c cs (Err m) = only_end at (Some (at, m))

-- the lexemes of characters that begin at a place; n is at least their number
abbrev pub lexed_by : ℕ → ℕ → List ℕ → Lexemes
lexed_by zero at cs = only_end at None
lexed_by (suc n) at [] = only_end at None
lexed_by (suc n) at (c ∷ cs) =
    if is_whitespace c then lexed_by n (at + len_utf8 c) cs else
    lexed_form (λ to rest. lexed_by n to rest) at c cs (form c cs)

-- the lexemes of characters that begin at a place
abbrev pub lexed_from : ℕ → List ℕ → Lexemes
lexed_from at cs = lexed_by (length cs) at cs

-- the lexemes of a text
abbrev pub lexed : List ℕ → Lexemes
lexed cs = lexed_from 0 cs

-- a text has these lexemes exactly where they are the value
abbrev pub LexemesAreComputed : Type 0
LexemesAreComputed =
    (at : ℕ) (cs : List ℕ) (xs : List Lexeme) (f : Option (ℕ × Miss)) →
    Lexes at cs xs f ↔ (lexed_from at cs ≡ (xs, f))
