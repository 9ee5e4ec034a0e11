-- A compiled expression finds a match where the expression holds.
use Rattle.std.proofs.Common.{◌≡◌, ℕ, ◌<◌, ◌≤◌, List, length, sym, ◌∙◌, ap, Option, None, Some, get_or}
use Rattle.std.specs.Prelude.{All, is_some, IsSomeAnd}
use Rattle.std.proofs.lemmas.List.{get_or_default}
use Rattle.regex.specs.Strings.{regex_pattern, regex_source, regex_config, IsReadFromSource}
use Rattle.regex.specs.Patterns.{Reads}
use Rattle.regex.specs.declared.string.regex.Regex.{Regex}
use Rattle.regex_syntax.specs.Brackets.{Nested}
use Rattle.regex_syntax.specs.Grammar.{Names, group_count}
use Rattle.regex_syntax.specs.Verdict.{default_config}
use Rattle.regex_syntax.specs.Captures.{SameCaptures}
use Rattle.regex_syntax.proofs.CapturesLemmas.{spans, find_str_alike}
use Rattle.regex_syntax.proofs.Written.{is_some-option_map}
use Rattle.regex_hir.specs.Re.{Re}
use Rattle.regex_hir.specs.Find.{find_str}
use Rattle.od_asked.specs.Texts.{whole, finds, regex_holds}
use Rattle.od_io.specs.Compiled.{IsCompiledFrom}

-- what the crate compiled finds a match where the expression as it was read does
finds_alike : (o : Option (Nested Re × Names)) (a : Re) (most : ℕ) (names : Names)
    → IsSomeAnd o (λ (re, found). (re.depth ≤ most) × SameCaptures a re.value × (names ≡ found) × (group_count a ≤ length names))
    → (text : List ℕ) → All (λ x. x < 256) text → is_some (find_str a text 0) ≡ finds o text
finds_alike None a most names p text small = absurd p
finds_alike (Some found) a most names p text small =
    sym (is_some-option_map spans _) ∙ ap is_some (find_str_alike a found.0.value p.1 text small 0) ∙ is_some-option_map spans _

pub compiled_from : (r : Regex) (expression : List ℕ) → regex_source r ≡ whole expression
    → regex_config r ≡ default_config → IsReadFromSource r → IsCompiledFrom r expression
unfolding Reads regex_holds
compiled_from r expression is_source is_default is_read text small =
    finds_alike _ _ _ _ (rw (is_source, is_default) at is_read) text small

-- what a slice of bytes says of its places, said of its elements
pub all_bytes : (xs : List ℕ) → ((k : ℕ) → get_or xs k 0 < 256) → All (λ x. x < 256) xs
all_bytes xs bytes = λ k d h. rw (get_or_default xs k d 0 h) (bytes k)
