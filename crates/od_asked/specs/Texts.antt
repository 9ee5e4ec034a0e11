-- What a value of a constraint says of a text.
use Rattle.std.specs.Prelude.{ℕ, Bool, false, List, ◌++◌, Option, None, Some, chars, codes, is_some, bytes_eq}
use Rattle.regex_syntax.specs.Brackets.{Nested}
use Rattle.regex_syntax.specs.Grammar.{Names, read}
use Rattle.regex_syntax.specs.Verdict.{default_config}
use Rattle.regex_hir.specs.Re.{Re}
use Rattle.regex_hir.specs.Find.{find_str}
use Rattle.od_pattern.specs.declared.pattern.Value.{Value}
use Rattle.od_pattern.specs.declared.pattern.Value.TheVariants.{Plain, Regex}

-- the expression between the assertions that it matches a whole text
abbrev pub whole : List ℕ → List ℕ
whole expression = codes "\\A(?:" ++ expression ++ codes ")\\z"

-- an expression as it was read finds a match in the text; a text that is no expression finds none
abbrev pub finds : Option (Nested Re × Names) → List ℕ → Bool
finds None text = false
finds (Some found) text = is_some (find_str found.0.value text 0)

-- a regular expression holds of a text: `\A(?:expression)\z`, as the regex crate reads it
-- under its default options, finds a match
unfoldable pub regex_holds : List ℕ → List ℕ → Bool
regex_holds expression text = finds (read default_config (chars (whole expression))) text

-- a text fits a value: it equals the plain text, or the regular expression holds of it
abbrev pub fits : Value → List ℕ → Bool
fits (Plain plain) text = bytes_eq plain text
fits (Regex expression) text = regex_holds expression text
