-- The lexemes of a text by the first form that fits: a means of proof. No definition of the language
-- speaks of it.
use Rattle.std.specs.Prelude.{◌≡◌, ℕ, ◌+◌, true, false, List, [], ◌∷◌, ◌++◌, Option, Some, None, Ok, Err}
use Rattle.std.specs.Char.{len_utf8, is_whitespace}
use Rattle.od_language.specs.declared.lexeme.Miss.{Miss}
use Rattle.od_language.specs.declared.lexeme.Lexeme.{Lexeme}
use Rattle.od_language.specs.declared.lexeme.LexKind.{LexKind}
use Rattle.od_language.specs.declared.lexeme.LexKind.TheVariants as lexeme
use Rattle.od_language.specs.Forms.{form}
use Rattle.od_language.specs.Lexing.{size_of}

-- the lexemes before the first fault, `End` at its place or at the text's length, and the fault
pub data Formed : ℕ → List ℕ → List Lexeme → Option (ℕ × Miss) → Type 0 where
  end : (at : ℕ) → Formed at [] ((record { at = at; kind = lexeme.End }) ∷ []) None
  stuck : (at c : ℕ) (cs : List ℕ) (m : Miss) → is_whitespace c ≡ false → form c cs ≡ Err m →
      Formed at (c ∷ cs) ((record { at = at; kind = lexeme.End }) ∷ []) (Some (at, m))
  white : (at c : ℕ) (cs : List ℕ) (xs : List Lexeme) (f : Option (ℕ × Miss)) →
      is_whitespace c ≡ true → Formed (at + len_utf8 c) cs xs f → Formed at (c ∷ cs) xs f
  next : (at c : ℕ) (front rest : List ℕ) (k : LexKind) (xs : List Lexeme) (f : Option (ℕ × Miss)) →
      is_whitespace c ≡ false → form c (front ++ rest) ≡ Ok (k, rest) →
      Formed (at + len_utf8 c + size_of front) rest xs f → Formed at (c ∷ (front ++ rest)) ((record { at = at; kind = k }) ∷ xs) f
