-- What a walk through texts finds, and what it leaves.
use Rattle.std.specs.Prelude.{◌≡◌, ℕ, ◌≤◌, List, length, map, sum_by, Some}
use Rattle.std.specs.List.{find}
use Rattle.od_rule_text.specs.declared.rule_file.KeyText.{KeyText}
use Rattle.od_rule_text.specs.Expansion.{Misfit, unknown, cycle, is_named, pieces}
use Rattle.od_rule_text.specs.Meanings.{Gives}
use Rattle.od_expansion.specs.declared.bounded.Bounded.{Bounded}
use Rattle.od_expansion.specs.declared.state.State.{State}
use Rattle.od_expansion.specs.declared.walk.Stop.{Stop}
use Rattle.od_expansion.specs.declared.walk.Stop.TheVariants.{Unknown, Cycle, NoMemory}
use Rattle.od_expansion.specs.Bounds.{Holds}
use Rattle.od_expansion.specs.Occurrences.{Appends}
use Rattle.od_expansion.specs.States.{SameOpen, AreKnown, unseen}

-- the names are those of the variables, each of which has a state
pub record IsReady (vars : List KeyText) (names : List (List ℕ)) (states : List State) : Type 0 where
  pub names_are : names ≡ map (λ (v : KeyText). v.key) vars
  pub sized : length states ≡ length vars
  pub known : AreKnown vars states

-- what is under way stays so, what is known is right, and no more variables are unseen
pub record KeepsStates (vars : List KeyText) (before after : List State) : Type 0 where
  pub same_open : SameOpen before after
  pub sized : length after ≡ length before
  pub known : AreKnown vars after
  pub fewer : sum_by unseen after ≤ sum_by unseen before

-- what a text gives was kept, up to the limit
abbrev pub IsExpansion : List KeyText → List ℕ → Bounded → Type 0
IsExpansion vars text kept = (result : List ℕ) × Gives vars (pieces 0 text) result × Holds kept result

-- what the variable of a name gives was kept behind what was kept before
pub record AppendsVariable (vars : List KeyText) (name : List ℕ) (old new : Bounded) : Type 0 where
  pub variable : KeyText
  pub there : find (is_named name) vars ≡ Some variable
  pub text : List ℕ
  pub gives : Gives vars (pieces 0 variable.value) text
  pub appends : Appends text old new

-- P of the misfit at which a walk ended
abbrev pub IsStop : (Misfit → Type 0) → Stop → Type 0
IsStop P Unknown = P unknown
IsStop P (Cycle name) = P (cycle name)
IsStop P NoMemory = Unit {0}
