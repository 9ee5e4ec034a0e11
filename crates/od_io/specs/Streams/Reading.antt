-- What was read from a source, where it tells what it has left.
use Rattle.std.specs.Prelude.{ℕ, ◌<◌, ◌≤◌, ◌↔◌, List, length, Option, IfSome}
use Rattle.std.specs.Io.KnownBytes.{Consumes}

-- some bytes were taken from the front, and more than `most` exactly where P holds
abbrev pub ConsumesMoreWhere : ℕ → Type 0 → Option (List ℕ) → Option (List ℕ) → Type 0
ConsumesMoreWhere most P old new = (bytes : List ℕ) × Consumes old new bytes × ((most < length bytes) ↔ P)

-- where at most `most` bytes were left, P holds
abbrev pub IfAtMost : ℕ → Option (List ℕ) → Type 0 → Type 0
IfAtMost most left P = IfSome left (λ known. length known ≤ most → P)

-- where more than `most` bytes were left, P holds
abbrev pub IfMore : ℕ → Option (List ℕ) → Type 0 → Type 0
IfMore most left P = IfSome left (λ known. most < length known → P)
