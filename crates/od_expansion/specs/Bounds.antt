-- Texts that are kept up to a limit.
use Rattle.std.specs.Prelude.{◌≡◌, ℕ, ◌<◌, ◌≤◌, List, length, string_bytes, Option, None, Some}
use Rattle.od_rule_text.specs.declared.limits.TheConstants.{PATTERN_BYTES}
use Rattle.od_expansion.specs.declared.bounded.Bounded.{Bounded}
use Rattle.od_expansion.specs.declared.bounded.Bounded.TheVariants.{Kept, TooLong}

-- a text is kept where it has at most as many bytes as a pattern may have
abbrev pub Holds : Bounded → List ℕ → Type 0
Holds (Kept kept) text = (string_bytes kept ≡ text) × (length text ≤ PATTERN_BYTES)
Holds TooLong text = PATTERN_BYTES < length text

-- what was kept as a text, or that nothing was
abbrev pub IsText : Bounded → Option (List ℕ) → Type 0
IsText kept (Some text) = (held : List ℕ) → Holds kept held → (text ≡ held) × (length held ≤ PATTERN_BYTES)
IsText kept None = (held : List ℕ) → Holds kept held → PATTERN_BYTES < length held
