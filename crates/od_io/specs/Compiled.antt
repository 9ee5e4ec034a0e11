-- What a compiled expression keeps.
use Rattle.std.specs.Prelude.{◌≡◌, ◌<◌, ℕ, List, All, is_some}
use Rattle.regex.specs.Strings.{regex_pattern}
use Rattle.regex.specs.declared.string.regex.Regex.{Regex}
use Rattle.regex_hir.specs.Find.{find_str}
use Rattle.od_asked.specs.Texts.{regex_holds}

-- it finds a match exactly in the texts of which the expression holds
abbrev pub IsCompiledFrom : Regex → List ℕ → Type 0
IsCompiledFrom regex expression =
    (text : List ℕ) → All (λ x. x < 256) text
    → is_some (find_str (regex_pattern regex) text 0) ≡ regex_holds expression text
