-- Where pieces may stand in an expansion, and their first misfit there.
use Rattle.std.specs.Prelude.{◌≡◌, ℕ, ◌≤◌, List, true, false, length, Some, Err}
use Rattle.std.specs.List.{find}
use Rattle.od_rule_text.specs.declared.rule_file.KeyText.{KeyText}
use Rattle.od_rule_text.specs.Texts.{is_among}
use Rattle.od_rule_text.specs.Expansion.{Piece, pieces, Misfit, is_named, joined, expansion}
use Rattle.od_rule_text.specs.Meanings.{Reaches}
use Rattle.od_expansion.specs.declared.state.State.{State}
use Rattle.od_expansion.specs.States.{is_open}

-- the text of the variable of a name reaches another name
pub record TextReaches (vars : List KeyText) (outer name : List ℕ) : Type 0 where
  pub variable : KeyText
  pub there : find (is_named outer) vars ≡ Some variable
  pub reaches : Reaches vars name (pieces 0 variable.value)

-- Pieces may stand within these expansions, where these variables are left:
-- they are those under way, and each reaches what the pieces reach.
pub record Stands (vars : List KeyText) (names : List (List ℕ)) (states : List State) (ps : List Piece)
    (d : ℕ) (left : List KeyText) (within : List (List ℕ)) : Type 0 where
  pub open_are : (name : List ℕ) → is_among within name ≡ is_open names states name
  pub agrees : (name : List ℕ) → is_among within name ≡ false → find (is_named name) left ≡ find (is_named name) vars
  pub few : length left ≤ d
  pub above : (outer name : List ℕ) → is_among within outer ≡ true → Reaches vars name ps → TextReaches vars outer name

-- wherever the pieces stand, this is their first misfit
abbrev pub Fails : List KeyText → List (List ℕ) → List State → List Piece → Misfit → Type 0
Fails vars names states ps misfit =
    (d : ℕ) (left : List KeyText) (within : List (List ℕ)) → Stands vars names states ps d left within →
    joined (λ name. expansion d left within name) ps ≡ Err misfit
