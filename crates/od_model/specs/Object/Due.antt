-- Sizes of segments, in sentences, and when two neighbours are to be merged.
use Rattle.std.specs.Prelude.{ℕ, ◌+◌, ◌*◌, List, [], ◌∷◌, Option, Some, None, if◌then◌else◌, nat_lt}

-- the first place, counted on from n, with a size below twice the next
abbrev pub due_from : ℕ → List ℕ → Option ℕ
due_from n [] = None
due_from n (a ∷ []) = None
due_from n (a ∷ b ∷ sizes) = if nat_lt a (2 * b) then Some n else due_from (n + 1) (b ∷ sizes)

-- the first place at which a merge is due
abbrev pub due : List ℕ → Option ℕ
due sizes = due_from 0 sizes
