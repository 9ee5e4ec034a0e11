-- The characters of a run.
use Rattle.std.specs.Prelude.{ℕ, Bool}
use Rattle.std.specs.Char.{is_ascii_digit}
use Rattle.od_language.specs.Identifier.{in_identifier}
use Rattle.od_language.specs.Spelling.{in_word}
use Rattle.od_lex.specs.declared.scan.Run.{Run}
use Rattle.od_lex.specs.declared.scan.Run.TheVariants.{Word, Name, Digits}

-- whether a character goes on with a run
abbrev pub passes : Run → ℕ → Bool
passes Word = in_word
passes Name = in_identifier
passes Digits = is_ascii_digit
