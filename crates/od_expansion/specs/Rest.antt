-- Variables of which none is being expanded.
use Rattle.std.specs.Prelude.{◌≡◌, ℕ, List, false, slice_get}
use Rattle.od_text.specs.Lists.{EachPoint}
use Rattle.od_rule_text.specs.declared.rule_file.KeyText.{KeyText}
use Rattle.od_rule_text.specs.RuleFiles.{has_key}
use Rattle.od_expansion.specs.declared.state.State.{State}
use Rattle.od_expansion.specs.States.{is_open_state}
use Rattle.od_expansion.specs.Walks.{IsReady}

-- each variable has another name than those before it
abbrev pub AreDistinct : List KeyText → Type 0
AreDistinct vars = EachPoint (λ before v. has_key v.key before ≡ false) vars

-- the variables are ready, and no expansion is under way
pub record IsAtRest (vars : List KeyText) (names : List (List ℕ)) (states : List State) : Type 0 where
  pub ready : IsReady vars names states
  pub closed : (place : ℕ) → is_open_state (slice_get states place) ≡ false
