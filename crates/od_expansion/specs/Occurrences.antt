-- Occurrences of variables in a text, one after another.
use Rattle.std.specs.Prelude.{◌≡◌, ℕ, ◌+◌, ◌<◌, List, ◌∷◌, ◌++◌, length, drop, map, Option, None, Some}
use Rattle.std.specs.Borrow.{Bor}
use Rattle.od_rule_text.specs.Expansion.{stays, occurs, occurrence, pieces}
use Rattle.od_expansion.specs.declared.bounded.Bounded.{Bounded}
use Rattle.od_expansion.specs.Bounds.{Holds}

-- what was kept is kept with this text behind it
abbrev pub Appends : List ℕ → Bounded → Bounded → Type 0
Appends text old new = (front : List ℕ) → Holds old front → Holds new (front ++ text)

-- the variable that occurs at a `$` before this text, and the text behind its `}`
abbrev pub IsNameBehind : List ℕ → Option (Bor (List ℕ) × Bor (List ℕ)) → Type 0
IsNameBehind text None = occurrence (36 ∷ text) ≡ None
IsNameBehind text (Some p) =
    (occurrence (36 ∷ text) ≡ Some p.0.now) × (p.1.now ≡ drop (length p.0.now + 2) text) × (length p.1.now < length text)

-- a text up to a place, of which no variable occurs before it
pub record Copied (text rest : List ℕ) (old new : Bounded) : Type 0 where
  pub front : List ℕ
  pub parts : text ≡ front ++ rest
  pub pieces_are : pieces 0 text ≡ map stays front ++ pieces 0 rest
  pub appends : Appends front old new

-- a text in which a variable occurs first, and what stands before was copied
pub record HasOccurrence (text name rest : List ℕ) (old new : Bounded) : Type 0 where
  pub front : List ℕ
  pub pieces_are : pieces 0 text ≡ map stays front ++ occurs name ∷ pieces 0 rest
  pub appends : Appends front old new
  pub shorter : length rest < length text

-- the first variable of a text and the text behind it; or there is none, and all was copied
abbrev pub IsNext : List ℕ → Bounded → Bounded → Option (Bor (List ℕ) × Bor (List ℕ)) → Type 0
IsNext text old new None = (pieces 0 text ≡ map stays text) × Appends text old new
IsNext text old new (Some p) = HasOccurrence text p.0.now p.1.now old new
