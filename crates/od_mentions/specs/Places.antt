-- Places of mentions in a list, and what stands there.
use Rattle.std.specs.Prelude.{ℕ, suc, Bool, false, List, [], ◌∷◌, Option, Some, None, flat_map, slice_get, if◌then◌else◌}
use Rattle.std.specs.Option.{option_to_list}
use Rattle.od_extraction.specs.declared.mention.Mention.{Mention}
use Rattle.od_extraction.specs.Mentions.{same_mention}

-- the places of the mentions that pass a test, the first of which stands at place n
abbrev pub places_by : (Mention → Bool) → ℕ → List Mention → List ℕ
places_by test n [] = []
places_by test n (m ∷ ms) =
    if test m then n ∷ places_by test (suc n) ms else places_by test (suc n) ms

-- what stands at the places
abbrev pub found_at : List Mention → List ℕ → List Mention
found_at ms places = flat_map (λ place. option_to_list (slice_get ms place)) places

-- the mention is the same as one that may be there
abbrev pub is_same : Mention → Option Mention → Bool
is_same m None = false
is_same m (Some other) = same_mention m other

-- the mention stands at the place
abbrev pub has_at : List Mention → Mention → ℕ → Bool
has_at ms m place = is_same m (slice_get ms place)
