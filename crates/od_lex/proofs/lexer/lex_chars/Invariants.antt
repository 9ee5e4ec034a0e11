use Rattle.std.proofs.Common.{◌≡◌, ℕ, ◌+◌, ◌-◌, ◌≤◌, List, ◌++◌, drop, length, Option}
use Rattle.od_language.specs.declared.lexeme.Lexeme.{Lexeme}
use Rattle.od_language.specs.declared.lexeme.Miss.{Miss}
use Rattle.od_language.specs.Lexing.{size_of as bytes}
use Rattle.od_language.specs.Formed.{Formed}
use Rattle.od_lex.proofs.lexer.lex_chars.Given as goal

abbrev pub invariant-loop-at : goal.invariant-loop-at
invariant-loop-at l = record {
  within : l.i ≤ length l.chars;
  sized : l.at + bytes (drop l.i l.chars) ≡ l.fn.first + bytes l.chars;
  goes : (xs : List Lexeme) (f : Option (ℕ × Miss)) → Formed l.at (drop l.i l.chars) xs f → Formed l.fn.first l.chars (l.out.items ++ xs) f;
}

abbrev pub decreases-loop-at : goal.decreases-loop-at
decreases-loop-at l = length l.chars - l.i
