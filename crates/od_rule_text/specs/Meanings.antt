-- What variables stand for, by cases: what the expansion of a text and its faults are held against.
use Rattle.std.specs.Prelude.{◌≡◌, ℕ, List, [], ◌∷◌, ◌++◌, None, Some, Result, Ok, Err}
use Rattle.std.specs.List.{find}
use Rattle.od_rule_text.specs.declared.rule_file.KeyText.{KeyText}
use Rattle.od_rule_text.specs.Expansion.{Piece, stays, occurs, pieces, Misfit, unknown, cycle, is_named, expanded}

-- pieces give a text: a byte itself, and an occurrence what the variable's text gives
pub data Gives (vars : List KeyText) : List Piece → List ℕ → Type 0 where
  nothing : Gives vars [] []
  byte : (c : ℕ) (more : List Piece) (text : List ℕ) → Gives vars more text → Gives vars (stays c ∷ more) (c ∷ text)
  variable : (name : List ℕ) (v : KeyText) (more : List Piece) (front text : List ℕ) →
      find (is_named name) vars ≡ Some v → Gives vars (pieces 0 v.value) front → Gives vars more text →
      Gives vars (occurs name ∷ more) (front ++ text)

-- pieces reach a name: it occurs among them, or the text of a variable among them reaches it
pub data Reaches (vars : List KeyText) (name : List ℕ) : List Piece → Type 0 where
  here : (more : List Piece) → Reaches vars name (occurs name ∷ more)
  later : (piece : Piece) (more : List Piece) → Reaches vars name more → Reaches vars name (piece ∷ more)
  through : (other : List ℕ) (v : KeyText) (more : List Piece) → find (is_named other) vars ≡ Some v →
      Reaches vars name (pieces 0 v.value) → Reaches vars name (occurs other ∷ more)

-- a variable whose own text reaches it
pub record IsCycle (vars : List KeyText) (name : List ℕ) : Type 0 where
  pub variable : KeyText
  pub there : find (is_named name) vars ≡ Some variable
  pub again : Reaches vars name (pieces 0 variable.value)

-- An expansion is what the text gives; of an unknown variable, the text reaches a name that no variable has;
-- of a cycle, it reaches a variable that its own text reaches.
abbrev pub IsMeant : List KeyText → List ℕ → Result (List ℕ) Misfit → Type 0
IsMeant vars text (Ok expansion) = Gives vars (pieces 0 text) expansion
IsMeant vars text (Err unknown) = (name : List ℕ) × Reaches vars name (pieces 0 text) × (find (is_named name) vars ≡ None)
IsMeant vars text (Err (cycle name)) = Reaches vars name (pieces 0 text) × IsCycle vars name

-- so it is with every text, and what a text gives is its expansion
pub record ExpandsAsMeant : Type 0 where
  pub meant : (vars : List KeyText) (text : List ℕ) → IsMeant vars text (expanded vars text)
  pub given : (vars : List KeyText) (text result : List ℕ) → Gives vars (pieces 0 text) result → expanded vars text ≡ Ok result
