-- Counts of faults. They begin at 0, never fall, and stay at their last value, 2 ^ 64 - 1.
use Rattle.std.specs.Prelude.{◌≡◌, ◌⊎◌, ℕ, ◌+◌, ◌-◌, ◌^◌, ◌<◌, min, Result, MatchResult}

-- the count rose, or stands at its last value
abbrev pub Rose : ℕ → ℕ → Type 0
Rose old new = (old < new) ⊎ (new ≡ 2 ^ 64 - 1)

-- the count did not rise
abbrev pub Stayed : ℕ → ℕ → Type 0
Stayed old new = Rose old new → ⊥

-- the count after one more
abbrev pub count_up : ℕ → ℕ
count_up count = min (count + 1) (2 ^ 64 - 1)

-- the count rose by one where the call failed, and stayed where it did not
abbrev pub CountsFault : {A E : Type 0} → Result A E → ℕ → ℕ → Type 0
CountsFault result old new = MatchResult result (λ _. new ≡ old) (λ _. new ≡ count_up old)
