-- What a grammar reads: a kind of lexemes, each with the place of its first byte in the text.
-- Constraints, surface patterns and paths read the lexemes of a text; hops read lexemes of which each
-- `(` is told apart.
use Rattle.std.specs.Prelude.{◌≡◌, ℕ, List, [], ◌∷◌}
use Rattle.od_language.specs.declared.lexeme.Lexeme.{Lexeme}
use Rattle.od_language.specs.declared.lexeme.LexKind.{LexKind}
use Rattle.od_language.specs.declared.lexeme.LexKind.TheVariants.{Word, Equal, End}

-- lexemes X with kinds K: where one stands and what it is, and which kinds are words, `=` and the end
pub record Alphabet (X K : Type 0) : Type 0 where
  pub place : X → ℕ
  pub sort : X → K
  pub word : List ℕ → K
  pub equal : K
  pub end : K

-- the lexemes of a text
abbrev pub plain : Alphabet Lexeme LexKind
plain = record { place = λ x. x.at; sort = λ x. x.kind; word = λ text. Word text; equal = Equal; end = End }

module _ {X K : Type 0} (a : Alphabet X K) where
  -- lexemes without their places
  abbrev pub kinds : List X → List K
  kinds [] = []
  kinds (x ∷ more) = a.sort x ∷ kinds more

  -- the last lexeme is the end
  abbrev pub IsEnded : List X → Type 0
  IsEnded [] = ⊥
  IsEnded (x ∷ []) = a.sort x ≡ a.end
  IsEnded (x ∷ y ∷ more) = IsEnded (y ∷ more)

  -- the end stands at the end alone
  abbrev pub HasOneEnd : List X → Type 0
  HasOneEnd [] = ⊥
  HasOneEnd (x ∷ []) = a.sort x ≡ a.end
  HasOneEnd (x ∷ y ∷ more) = (a.sort x ≡ a.end → ⊥) × HasOneEnd (y ∷ more)
