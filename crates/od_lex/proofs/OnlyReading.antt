-- What is said of the one reading of a text.
use Rattle.std.proofs.Common.{◌≡◌, ℕ, List, Option, None, subst}
use Rattle.od_language.specs.declared.lexeme.Miss.{Miss}
use Rattle.od_language.specs.declared.lexeme.Lexeme.{Lexeme}
use Rattle.od_language.specs.Lexing.{Lexes, OneReading}
use Rattle.od_language.specs.Formed.{Formed}
use Rattle.od_language.specs.Lexed.{lexed_from}
use Rattle.od_language.proofs.Lexing.Longest.{longest}
use Rattle.od_language.proofs.Lexing.Readings.{only_computed}

pub only_lexemes : (cs : List ℕ) (xs ys : List Lexeme) (f : Option (ℕ × Miss)) → OneReading cs → Lexes 0 cs xs f → Lexes 0 cs ys None → xs ≡ ys
only_lexemes cs xs ys f o a b = (o.unique xs ys f None a b).0

pub only_fault : (cs : List ℕ) (xs ys : List Lexeme) (f g : Option (ℕ × Miss)) → OneReading cs → Lexes 0 cs xs f → Lexes 0 cs ys g → f ≡ g
only_fault cs xs ys f g o a b = (o.unique xs ys f g a b).1

-- what the lexer forms is the reading, wherever the text begins
pub longest_at : (at : ℕ) (cs ds : List ℕ) (xs : List Lexeme) (f : Option (ℕ × Miss)) → cs ≡ ds → Formed at cs xs f → Lexes at ds xs f
longest_at at cs ds xs f e l = subst (λ (z : List ℕ). Lexes at z xs f) e (longest at cs xs f l)

pub computed_at : (at : ℕ) (cs ds : List ℕ) (xs : List Lexeme) (f : Option (ℕ × Miss)) → cs ≡ ds → Formed at cs xs f → lexed_from at ds ≡ (xs, f)
computed_at at cs ds xs f e l = only_computed at ds xs f (longest_at at cs ds xs f e l)
