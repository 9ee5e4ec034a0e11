-- What stands between quotes, run by run.
use Rattle.std.specs.Prelude.{◌≡◌, ℕ, ◌==◌, ◌<◌, ◌||◌, not, Bool, false, List, [], ◌∷◌, ◌++◌, length, Option, None, Some, if◌then◌else◌}
use Rattle.std.specs.Option.{option_map}
use Rattle.od_rule_text.specs.Scalars.{quoted, may_follow_quote}
use Rattle.od_yaml.specs.declared.quoted.RunEnd.{RunEnd}
use Rattle.od_yaml.specs.declared.quoted.RunEnd.TheVariants.{Broken, Quote, Escaped}

-- neither a quote nor a backslash
abbrev pub is_ordinary : ℕ → Bool
is_ordinary c = not (c == 34 || c == 92)

-- a text behind this front, where there is one
abbrev pub behind : List ℕ → Option (List ℕ) → Option (List ℕ)
behind front text = option_map (λ more. front ++ more) text

-- what a text says that begins with no ordinary character
abbrev pub IsRunEnd : List ℕ → RunEnd → Type 0
IsRunEnd text Broken = quoted false text ≡ None
IsRunEnd text (Quote after) = quoted false text ≡ (if may_follow_quote after.now then Some [] else None)
IsRunEnd text (Escaped c after) = (quoted false text ≡ behind (c ∷ []) (quoted false after.now)) × (c < 128) × (length after.now < length text)
