-- Texts of given lexemes.
use Rattle.std.specs.Prelude.{◌≡◌, ℕ, List, [], ◌∷◌, ◌++◌, None}
use Rattle.od_language.specs.declared.lexeme.LexKind.{LexKind}
use Rattle.od_language.specs.declared.lexeme.LexKind.TheVariants.{End}
use Rattle.od_language.specs.Alphabet.{plain, kinds}
use Rattle.od_language.specs.Lexed.{lexed_from}

-- characters that begin at a place are these lexemes and then the end, and the lexer has no fault
pub record HasLexemes (at : ℕ) (cs : List ℕ) (word : List LexKind) : Type 0 where
  pub lexemes : kinds plain (lexed_from at cs).0 ≡ word ++ End ∷ []
  pub no_fault : (lexed_from at cs).1 ≡ None
