-- Lines and blocks, as they are taken from bytes.
use Rattle.std.specs.Prelude.{◌≡◌, ℕ, ◌+◌, ◌<◌, ◌≤◌, List, [], ◌∷◌, ◌++◌, length, take, drop, Option, Some, None, true, false, nat_lt}
use Rattle.std.specs.Borrow.{Bor}
use Rattle.std.specs.List.{concat}
use Rattle.od_order.specs.Lines.{whole_lines}

-- the first line of bytes, and the bytes behind it, where there are some
abbrev pub IsFirstLine : List ℕ → Option (Bor (List ℕ) × Bor (List ℕ)) → Type 0
IsFirstLine bytes None = bytes ≡ []
IsFirstLine bytes (Some p) =
    (whole_lines bytes ≡ p.0.now ∷ whole_lines p.1.now) × (bytes ≡ p.0.now ++ p.1.now) × (0 < length p.0.now)

-- so many lines, and the bytes behind them, where there are so many
abbrev pub IsBlock : List ℕ → ℕ → Option (Bor (List ℕ) × Bor (List ℕ)) → Type 0
IsBlock bytes count None = nat_lt (length (whole_lines bytes)) count ≡ true
IsBlock bytes count (Some p) =
    (nat_lt (length (whole_lines bytes)) count ≡ false) × (concat (take count (whole_lines bytes)) ≡ p.0.now) × (drop count (whole_lines bytes) ≡ whole_lines p.1.now)
    × (length bytes ≡ length p.0.now + length p.1.now) × (count ≤ length p.0.now)

-- so many lines were passed, and this is the rest
pub record Passed (bytes rest : List ℕ) (count : ℕ) : Type 0 where
  pub front : bytes ≡ concat (take count (whole_lines bytes)) ++ rest
  pub lines : drop count (whole_lines bytes) ≡ whole_lines rest
  pub few : count + length rest ≤ length bytes
  pub within : count ≤ length (whole_lines bytes)
