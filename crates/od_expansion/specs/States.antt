-- How far the expansions of variables are known.
use Rattle.std.specs.Prelude.{◌≡◌, ℕ, List, Bool, true, false, Option, None, Some, slice_get, position, bytes_eq}
use Rattle.od_rule_text.specs.declared.rule_file.KeyText.{KeyText}
use Rattle.od_rule_text.specs.Expansion.{pieces}
use Rattle.od_rule_text.specs.Meanings.{Gives}
use Rattle.od_expansion.specs.declared.state.State.{State}
use Rattle.od_expansion.specs.declared.state.State.TheVariants.{Unseen, Open, Known}
use Rattle.od_expansion.specs.Bounds.{Holds}

-- the place of the variable of a name
abbrev pub place_of : List (List ℕ) → List ℕ → Option ℕ
place_of names name = position (λ other. bytes_eq other name) names

-- whether this is the state of a variable whose expansion is under way
abbrev pub is_open_state : Option State → Bool
is_open_state None = false
is_open_state (Some Unseen) = false
is_open_state (Some Open) = true
is_open_state (Some (Known text)) = false

-- whether the expansion of the variable at a place is under way
abbrev pub is_open_at : List State → Option ℕ → Bool
is_open_at states None = false
is_open_at states (Some place) = is_open_state (slice_get states place)

-- whether the expansion of a name is under way
abbrev pub is_open : List (List ℕ) → List State → List ℕ → Bool
is_open names states name = is_open_at states (place_of names name)

-- what is under way stays so, and nothing else is
abbrev pub SameOpen : List State → List State → Type 0
SameOpen before after = (place : ℕ) → is_open_state (slice_get after place) ≡ is_open_state (slice_get before place)

-- 1 for a variable that was not met yet
abbrev pub unseen : State → ℕ
unseen Unseen = 1
unseen Open = 0
unseen (Known text) = 0

-- an expansion that is known is what the variable's text gives
abbrev pub IsKnownAt : List KeyText → Option KeyText → Option State → Type 0
IsKnownAt vars (Some v) (Some (Known kept)) = (text : List ℕ) × Gives vars (pieces 0 v.value) text × Holds kept text
IsKnownAt vars v state = Unit {0}

-- so it is with all that are known
abbrev pub AreKnown : List KeyText → List State → Type 0
AreKnown vars states = (place : ℕ) → IsKnownAt vars (slice_get vars place) (slice_get states place)
